-- The words in which calls of a map speak of its pairs: that of a key, all but it, what is held of those that were stored, and what a walk has still to show.
pub use Rattle.owner_map.specs.Given.{Balanced, HoldsOn, IsLife, found_by, if_stored, if_tried, left_by, stored_computing, stored_in}
pub use Rattle.owner_map.specs.Given.{last_put, last_taken, put, put_all}
pub use Rattle.owner_map.specs.Given.SeqShowsMaps.{Keeps}
pub use Rattle.owner_map.specs.Given.SeqShowsStored.{Collects, Extends, IsMadeOf, IsMadeOfClones}
pub use Rattle.map_straight.specs.Shown.Coming.{pairs_to_come}
pub use Rattle.map_straight.specs.Shown.Columns.{keys_to_come, values_to_come}
pub use Rattle.map_straight.specs.Shown.Lent.{pair_shown}
