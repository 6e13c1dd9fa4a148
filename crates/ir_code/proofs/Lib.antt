pub mod OnlyAdds
mod Stuck
pub mod Worked
