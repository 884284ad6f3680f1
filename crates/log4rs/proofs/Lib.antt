mod Putting
mod Lives
mod Answered
