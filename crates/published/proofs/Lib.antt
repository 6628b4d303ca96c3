mod Computed
mod Talked
