mod Clones
