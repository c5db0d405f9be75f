mod Means
mod Gathered
