pub mod Callers
mod Calls
mod Refusing
mod Lists
mod Written
mod Drifts
mod Kicks
mod Ticks
mod AnyKicks
mod Trees
mod TreeDrifts
mod Phases
mod SecondHalf
mod Views
mod Ticking
mod Sorting
mod OneTick
