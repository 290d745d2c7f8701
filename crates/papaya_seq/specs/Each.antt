-- What holds of each pair of a map holds of what is found, of what is left and of what is put, whichever property it is.
pub use Rattle.owner_map.specs.Given.{found_is_so, left_are_so, ordered_are_so, put_are_so, puts_are_so, value_is_so}
