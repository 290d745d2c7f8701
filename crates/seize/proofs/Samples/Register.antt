-- Which bucket must have its words before a slot is taken, worked by hand: the next one, for the last slot of a bucket.
use Rattle.std.specs.Prelude.{Some, None}
use Rattle.std.proofs.Common.{◌≡◌, refl}
use Rattle.seize.specs.Register.{bucket_needed}

first_slot : bucket_needed 0 ≡ None
first_slot = refl

last_but_one_of_the_first_bucket : bucket_needed 30 ≡ None
last_but_one_of_the_first_bucket = refl

last_of_the_first_bucket : bucket_needed 31 ≡ Some 1
last_of_the_first_bucket = refl

first_of_the_second_bucket : bucket_needed 32 ≡ None
first_of_the_second_bucket = refl

last_of_the_second_bucket : bucket_needed 95 ≡ Some 2
last_of_the_second_bucket = refl

last_of_the_eleventh_bucket : bucket_needed 65503 ≡ Some 11
last_of_the_eleventh_bucket = refl

-- no slot is behind the last one
last_slot : bucket_needed 65535 ≡ None
last_slot = refl
