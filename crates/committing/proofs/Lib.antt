mod ShelfWrites
mod Stamps
mod Puts
mod Certified
