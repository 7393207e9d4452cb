pub mod Callers
mod Copying
mod Pushing
mod Reading
mod Refusing
mod Sorting
