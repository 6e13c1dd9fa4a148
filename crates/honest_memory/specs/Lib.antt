pub mod HonestWords
pub mod WordPrograms
