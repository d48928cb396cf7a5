mod Bottom
mod Ended
mod Sessions
mod Restating
mod Turned
mod Turns
mod Growing
