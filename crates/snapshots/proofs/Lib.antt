mod ShelfReads
