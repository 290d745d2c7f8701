mod OnBoth
mod Rests
