-- Each move of a settling row that runs alone follows the waiting sets.
use Rattle.std.proofs.Common.{◌≡◌, ℕ, List, refl, sym, subst}
use Rattle.seize.specs.declared.rows.settle.Settle.{Settle}
use Rattle.seize.specs.WaitingSets.{After}
use Rattle.seize_rule.proofs.Given.SeizeMovesState.Ghost.{State}
use Rattle.seize_rule.proofs.Points.Told.{Part, part, Plain, Flushing, Trying, Marking, Pushing, Draining, Told, Stays, Holds, HoldsNone, Gives, Begins, Appends, Fills, Skips, Passes, Finds, Marks, GivesUp, Closes, Pushes, Misses, Sums, SumsLast, Drains, DrainsNone, Takes, TakesLast, Joins, Counts, CountsLast}
use Rattle.seize_model.proofs.Sets.Follows.Work.{Follows, Setting}
use Rattle.seize_model.proofs.Sets.Follows.Retired.{stays_follows, holds_follows, holds_none_follows, gives_follows, begins_follows, appends_follows, fills_follows}
use Rattle.seize_model.proofs.Sets.Follows.Tries.{skips_follows, passes_follows, finds_follows, marks_follows, gives_up_follows, closes_follows}
use Rattle.seize_model.proofs.Sets.Follows.Pushes.{pushes_follows, misses_follows, sums_follows, sums_last_follows}
use Rattle.seize_model.proofs.Sets.Follows.Deferred.{drains_follows, drains_none_follows, takes_follows, takes_last_follows, joins_follows}
use Rattle.seize_model.proofs.Sets.Follows.Countdown.{counts_follows, counts_last_follows}

module _ (n i : ℕ) (c c2 : Settle) (before : List ℕ) (target : After) where
  -- it follows them at this part
  abbrev From : Part → State → Type 0
  From p m = Follows c.batch_size n i c.slot p m before target

  abbrev Set : Part → State → Type 0
  Set p m = Setting c.batch_size n i c.slot p m

  -- from the part q to q2, by the move to k
  keeps : (p q q2 : Part) (m m2 k : State) → p ≡ q → part c2 ≡ q2 → m2 ≡ k → (Set q m → From q m → From q2 k) → Set p m → From p m → From (part c2) m2
  keeps p q q2 m m2 k e f g h st o =
      subst (λ (r : Part). From r m2) (sym f) (subst (λ (x : State). From q2 x) (sym g) (h (subst (λ (r : Part). Set r m) e st) (subst (λ (r : Part). From r m) e o)))

  pub follows_step : (p : Part) (m m2 : State) → Told n i c p m c2 m2 → Set p m → From p m → From (part c2) m2
  follows_step p m m2 (Stays a b) st o = stays_follows c.batch_size n i c.slot p (part c2) m m2 before target st a b o
  follows_step p m m2 (Holds a b) st o = keeps p p p m m2 _ refl b a (λ u v. holds_follows c.batch_size n i c.slot p m before target u v) st o
  follows_step p m m2 (HoldsNone a b d e f g) st o = keeps p Flushing Plain m m2 _ b d a (λ u v. holds_none_follows c.batch_size n i c.slot m before target u e f g v) st o
  follows_step p m m2 (Gives a b d) st o = keeps p Plain Plain m m2 _ b d a (λ u v. gives_follows c.batch_size n i c.slot m before target u v) st o
  follows_step p m m2 (Begins a b d e f g h) st o = keeps p Flushing Trying m m2 _ b d a (λ u v. begins_follows c.batch_size n i c.slot m before target u e f g h v) st o
  follows_step p m m2 (Appends b bs e a f g h k) st o = keeps p Plain Plain m m2 _ f g a (λ u v. appends_follows c.batch_size n i c.slot m before target u b bs e h k v) st o
  follows_step p m m2 (Fills b bs e a f g h k l) st o = keeps p Plain Trying m m2 _ f g a (λ u v. fills_follows c.batch_size n i c.slot m before target u b bs e h k l v) st o
  follows_step p m m2 (Skips t l e f a g h) st o = keeps p Trying Trying m m2 _ g h a (λ u v. skips_follows c.batch_size n i c.slot m before target u t l e f v) st o
  follows_step p m m2 (Passes f a g h) st o = keeps p Trying Trying m m2 _ g h a (λ u v. passes_follows c.batch_size n i c.slot m before target u f v) st o
  follows_step p m m2 (Finds t l e f a g h) st o = keeps p Trying (Marking t) m m2 _ g h a (λ u v. finds_follows c.batch_size n i c.slot m before target u t l e f v) st o
  follows_step p m m2 (Marks t l e a g h) st o = keeps p (Marking t) Trying m m2 _ g h a (λ u v. marks_follows c.batch_size n i c.slot m before target t u l e v) st o
  follows_step p m m2 (GivesUp t l e f d a g h k) st o = keeps p Trying Plain m m2 _ g h a (λ u v. gives_up_follows c.batch_size n i c.slot m before target u t l e f d k v) st o
  follows_step p m m2 (Closes e f d a g h k) st o = keeps p Trying Pushing m m2 _ g h a (λ u v. closes_follows c.batch_size n i c.slot m before target u e f d k v) st o
  follows_step p m m2 (Pushes y t d es rest a b e g h k) st o = keeps p Pushing Pushing m m2 _ h k g (λ u v. pushes_follows c.batch_size n i c.slot m before target u y t d es rest a b e v) st o
  follows_step p m m2 (Misses y t rest a b e g h k) st o = keeps p Pushing Pushing m m2 _ h k g (λ u v. misses_follows c.batch_size n i c.slot m before target u y t rest a b e v) st o
  follows_step p m m2 (Sums y a b e g h k none) st o = keeps p Pushing Plain m m2 _ h k g (λ u v. sums_follows c.batch_size n i c.slot m before target u y a b e v) st o
  follows_step p m m2 (SumsLast y a b e g h k none) st o = keeps p Pushing Plain m m2 _ h k g (λ u v. sums_last_follows c.batch_size n i c.slot m before target u y a b e v) st o
  follows_step p m m2 (Drains b bs a g h k) st o = keeps p Plain Draining m m2 _ h k g (λ u v. drains_follows c.batch_size n i c.slot m before target u b bs a v) st o
  follows_step p m m2 (DrainsNone b bs a d g h k) st o = keeps p Plain Draining m m2 _ h k g (λ u v. drains_none_follows c.batch_size n i c.slot m before target u b bs a d v) st o
  follows_step p m m2 (Takes b bs a d g h k) st o = keeps p Draining Plain m m2 _ h k g (λ u v. takes_follows c.batch_size n i c.slot m before target u b bs a d v) st o
  follows_step p m m2 (TakesLast b a d g h k) st o = keeps p Draining Plain m m2 _ h k g (λ u v. takes_last_follows c.batch_size n i c.slot m before target u b a d v) st o
  follows_step p m m2 (Joins a g h k) st o = keeps p Plain Plain m m2 _ h k g (λ u v. joins_follows c.batch_size n i c.slot m before target u a v) st o
  follows_step p m m2 (Counts e es a b d g h k none pending closing) st o =
      keeps p Plain Plain m m2 _ h k g (λ u v. counts_follows c.batch_size n i c.slot Plain m before target u e es a b d none pending closing v) st o
  follows_step p m m2 (CountsLast e es a b d g h k none pending closing) st o =
      keeps p Plain Plain m m2 _ h k g (λ u v. counts_last_follows c.batch_size n i c.slot Plain m before target u e es a b d none pending closing v) st o
