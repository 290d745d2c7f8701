mod Elements
mod Swept
