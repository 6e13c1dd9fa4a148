pub mod SafePrograms
