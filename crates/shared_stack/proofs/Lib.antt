mod Replacing
