mod Skipping
mod Appending
mod OneByOne
mod Again
