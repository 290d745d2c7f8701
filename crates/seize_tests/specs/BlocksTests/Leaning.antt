-- Who leans on nobody leans on nobody after an operation.
use Rattle.std.specs.Prelude.{ℕ, Ok, Err}
use Rattle.std.proofs.Common.{sym, subst}
use Rattle.seize_words.specs.OneMemory.Op.{Op, Out, Found, Stored, Exchanged, Made, Taken, Roomed}
use Rattle.seize_tests.specs.declared.part.Part.{Part}
use Rattle.seize_tests.specs.declared.part.Part.TheVariants.{Nothing, Keeps, Clears, Looks}
use Rattle.seize_tests.specs.BlocksTests.Leaned.{IsUpright, Leans, leaned}

pub upright : (v : Part) (n : ℕ) → IsUpright v → Leans v n → ⊥
upright Nothing n rests leans = leans
upright Keeps n rests leans = leans
upright Clears n rests leans = leans
upright (Looks m) n rests leans = rests

pub resting_stay : (v : Part) (op : Op ℕ) (out : Out ℕ) (w : Part) → leaned v op out w → IsUpright v → IsUpright w
resting_stay Nothing op (Found x) w told rests = absurd told
resting_stay Nothing op Stored w told rests = absurd told
resting_stay Nothing op (Exchanged (Ok was)) w told rests = subst IsUpright (sym told) tt
resting_stay Nothing op (Exchanged (Err now)) w told rests = subst IsUpright (sym told) tt
resting_stay Nothing op (Made x) w told rests = absurd told
resting_stay Nothing op (Taken x) w told rests = absurd told
resting_stay Nothing op (Roomed x) w told rests = absurd told
resting_stay Keeps op out w told rests = absurd told
resting_stay Clears op (Found x) w told rests = absurd told
resting_stay Clears op Stored w told rests = subst IsUpright (sym told) tt
resting_stay Clears op (Exchanged (Ok was)) w told rests = absurd told
resting_stay Clears op (Exchanged (Err now)) w told rests = absurd told
resting_stay Clears op (Made x) w told rests = absurd told
resting_stay Clears op (Taken x) w told rests = absurd told
resting_stay Clears op (Roomed x) w told rests = absurd told
resting_stay (Looks m) op (Found x) w told rests = absurd rests
resting_stay (Looks m) op Stored w told rests = absurd told
resting_stay (Looks m) op (Exchanged (Ok was)) w told rests = absurd told
resting_stay (Looks m) op (Exchanged (Err now)) w told rests = absurd told
resting_stay (Looks m) op (Made x) w told rests = absurd told
resting_stay (Looks m) op (Taken x) w told rests = absurd told
resting_stay (Looks m) op (Roomed x) w told rests = absurd told

pub leaning_stay : (v : Part) (op : Op ℕ) (out : Out ℕ) (w : Part) → leaned v op out w → (n : ℕ) → Leans w n → Leans v n
leaning_stay Nothing op (Found x) w told n leans = absurd told
leaning_stay Nothing op Stored w told n leans = absurd told
leaning_stay Nothing op (Exchanged (Ok was)) w told n leans = subst (λ (x : Part). Leans x n) told leans
leaning_stay Nothing op (Exchanged (Err now)) w told n leans = subst (λ (x : Part). Leans x n) told leans
leaning_stay Nothing op (Made x) w told n leans = absurd told
leaning_stay Nothing op (Taken x) w told n leans = absurd told
leaning_stay Nothing op (Roomed x) w told n leans = absurd told
leaning_stay Keeps op out w told n leans = absurd told
leaning_stay Clears op (Found x) w told n leans = absurd told
leaning_stay Clears op Stored w told n leans = subst (λ (x : Part). Leans x n) told leans
leaning_stay Clears op (Exchanged (Ok was)) w told n leans = absurd told
leaning_stay Clears op (Exchanged (Err now)) w told n leans = absurd told
leaning_stay Clears op (Made x) w told n leans = absurd told
leaning_stay Clears op (Taken x) w told n leans = absurd told
leaning_stay Clears op (Roomed x) w told n leans = absurd told
leaning_stay (Looks m) op (Found x) w told n leans = subst (λ (x : Part). Leans x n) told.1 leans
leaning_stay (Looks m) op Stored w told n leans = absurd told
leaning_stay (Looks m) op (Exchanged (Ok was)) w told n leans = absurd told
leaning_stay (Looks m) op (Exchanged (Err now)) w told n leans = absurd told
leaning_stay (Looks m) op (Made x) w told n leans = absurd told
leaning_stay (Looks m) op (Taken x) w told n leans = absurd told
leaning_stay (Looks m) op (Roomed x) w told n leans = absurd told
