mod SplitPuts
