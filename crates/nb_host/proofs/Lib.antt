pub mod Callers
mod Calls
mod DiskSteps
mod Grown
mod StoredFiles
