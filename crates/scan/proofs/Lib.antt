mod Scans
mod Tested
