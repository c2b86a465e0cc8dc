mod RisingLines
mod BlockLines
