mod Held
mod CallCases
mod ReadCases
mod CommitCases
