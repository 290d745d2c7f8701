-- How far a settling is from the end of the work that it is at, whatever the others do meanwhile.
use Rattle.std.specs.Prelude.{if◌then◌else◌, nat_lt, ◌==◌, ◌/◌}
use Rattle.std.proofs.Common.{◌≡◌, ℕ, ◌+◌, ◌-◌, ◌*◌, ◌<◌, ◌≤◌, Bool, true, false, cond, eqb, List, [], ◌∷◌, ◌++◌, length, refl, arith, ap}
use Rattle.seize.specs.declared.states.TheConstants.{ACTIVE, LAST_SLOT, MOST_LOST}
use Rattle.seize.specs.declared.rows.settle.Settle.{Settle}
use Rattle.seize.specs.declared.rows.settle.Settling.{Settling}
use Rattle.seize.specs.declared.rows.settle.Settling.TheVariants as at
use Rattle.seize.specs.Settle.{onward, with_batch, standing}
use Rattle.seize_model.specs.Given.SeizeWaitingHeld.{count}
use Rattle.seize_model.proofs.Given.SeizeMovesState.Ghost.{State}
use Rattle.seize_model.proofs.Given.SeizeMemoryWords.Named.{link}
use Rattle.seize_model.proofs.Given.SeizeMemoryWords.Chains.{last_of, count_first}
use Rattle.seize_acts.proofs.Bounds.Bounds.Knows.{is_popped}
use Rattle.seize_acts.proofs.Bounds.Settles.Carried.{TAKING, PUSHING, SHUTTING, SCANNING, TRYING}

-- how many of these blocks stand behind this one
abbrev pub behind : ℕ → List ℕ → ℕ
behind d [] = 0
behind d (b ∷ l) = cond (eqb d b) (length l) (behind d l)

-- how far a point is from the end of the work that it belongs to, where the present push has lost so many exchanges, and so many of the blocks put stand behind
-- the last one that it knows of
abbrev pub point : ℕ → ℕ → Settling → ℕ
point lost further at.Sees = 3
point lost further at.Holds = 2
point lost further at.Pops = 6
point lost further (at.Firsts block) = cond (eqb block 0) (TRYING + 1) 5
point lost further (at.Batches block) = 4
point lost further (at.Ends block) = 3
point lost further (at.Appends block) = 2
point lost further (at.Counts block) = 1
point lost further (at.Scans slot block marks) = SCANNING * (LAST_SLOT + 1 - slot) + PUSHING * marks + (SHUTTING + 3)
point lost further (at.Marks slot block marks) = SCANNING * (LAST_SLOT + 1 - slot) + PUSHING * marks + (SHUTTING + 2)
point lost further (at.Marked slot block marks) = SCANNING * (LAST_SLOT + 1 - slot) + PUSHING * marks + (SHUTTING + 1)
point lost further (at.Closes marks) = PUSHING * marks + SHUTTING
point lost further (at.Reads block left pushed) = PUSHING * left + (2 * MOST_LOST + TAKING + 9)
point lost further (at.Links block left pushed slot head) = PUSHING * left + 2 * (MOST_LOST - lost) + (TAKING + 8)
point lost further (at.Pushes block left pushed slot head) = PUSHING * left + 2 * (MOST_LOST - lost) + (TAKING + 7)
point lost further (at.Pushed block left pushed) = PUSHING * left + SHUTTING
point lost further (at.Sums pushed) = TAKING + 7
point lost further at.Nexts = 5
point lost further (at.Drains next word) = 4
point lost further (at.Joins next more) = 3
point lost further (at.Tails next) = further + 3
point lost further (at.Takes next) = 2
point lost further at.Puts = 7
point lost further at.Lists = 3
point lost further (at.Owns next) = 2
point lost further (at.Downs next batch) = 1
point lost further at.Gives = 6
point lost further at.Over = 0

-- the batch is still to be held, and to be tried
abbrev pub ahead : Bool → Bool → ℕ
ahead held flushing = cond held 0 5 + cond flushing TRYING 0

-- what is left up to the end of the work that it is at, where its batch has put these blocks
abbrev pub here : List ℕ → Settle → ℕ
here puts c = ahead c.held c.flushing + point c.lost (behind (c.put_last / 2048) puts) c.stands

-- it has seen the word of its slot's batch as it is
abbrev pub SeenAt : State → Settle → Settling → Type 0
SeenAt m c at.Holds = c.last ≡ link (last_of (m.blocks (m.open_batch c.slot)))
SeenAt m c _ = Unit {0}

abbrev pub HasSeen : State → Settle → Type 0
HasSeen m c = SeenAt m c c.stands

-- where it goes on after a piece of work
pub record Onward (puts : List ℕ) (d c : Settle) : Type 0 where
  pub near : here puts d ≤ ahead c.held c.flushing + 6
  pub seen : (m : State) → HasSeen m d
  pub popped : is_popped d.stands ≡ false
  pub pending : d.pending ≡ c.pending
  pub put : d.put_first ≡ c.put_first
  pub list : d.list ≡ c.list

module _ (puts : List ℕ) (c : Settle) where
  stays : (p : Settling) → point c.lost (behind (c.put_last / 2048) puts) p ≤ 6 → ((m : State) → HasSeen m (standing c p)) → is_popped p ≡ false
      → Onward puts (standing c p) c
  stays p le seen popped = record { near = omega (arith, le); seen = seen; popped = popped; pending = refl; put = refl; list = refl }

  tried : (p : Settling) → point c.lost (behind (c.put_last / 2048) puts) p ≤ cond c.flushing TRYING 0 + 6
      → ((m : State) → HasSeen m (record c { flushing = false; stands = p })) → is_popped p ≡ false
      → Onward puts (record c { flushing = false; stands = p }) c
  tried p le seen popped = record { near = omega (arith, le); seen = seen; popped = popped; pending = refl; put = refl; list = refl }

  batch : (h g z : Bool) → c.flushing ≡ g
      → Onward puts (if h then
      (if g then (if z then record c { flushing = false; stands = at.Gives } else record c { flushing = false; stands = at.Firsts 0 }) else standing c at.Pops)
      else standing c at.Sees) c
  batch true true true e = tried at.Gives (omega arith) (λ m. tt) refl
  batch true true false e = let k = ap (λ (t : Bool). cond t TRYING 0) e in tried (at.Firsts 0) (omega (arith, k)) (λ m. tt) refl
  batch true false z e = stays at.Pops (omega arith) (λ m. tt) refl
  batch false g z e = stays at.Sees (omega arith) (λ m. tt) refl

  goes_with_batch : Onward puts (with_batch c) c
  goes_with_batch = batch c.held c.flushing (c.last == 0) refl

  pub goes_onward : Onward puts (onward c) c
  goes_onward = one (c.reclaiming == 0) (c.pending == 0) c.flushing (nat_lt ACTIVE c.list) c.held
    where
      one : (a b d l h : Bool)
          → Onward puts (if a then (if b then (if d then with_batch c else
          (if l then standing c at.Lists else (if h then standing c at.Gives else standing c at.Over))) else with_batch c) else standing c at.Nexts) c
      one false b d l h = stays at.Nexts (omega arith) (λ m. tt) refl
      one true false d l h = goes_with_batch
      one true true true l h = goes_with_batch
      one true true false true h = stays at.Lists (omega arith) (λ m. tt) refl
      one true true false false true = stays at.Gives (omega arith) (λ m. tt) refl
      one true true false false false = stays at.Over (omega arith) (λ m. tt) refl

-- blocks behind others

count_in : (d : ℕ) (before l : List ℕ) → 0 < count d (before ++ d ∷ l)
count_in d [] l = count_first d l
count_in d (b ∷ before) l = let ih = count_in d before l in omega (arith, ih)

-- what stands behind a block that stands in a list once
pub behind_is : (d : ℕ) (before l : List ℕ) → count d (before ++ d ∷ l) ≤ 1 → behind d (before ++ d ∷ l) ≡ length l
behind_is d [] l once = grind arith
behind_is d (b ∷ before) l once =
    let some = count_in d before l in
    let ih = behind_is d before l (omega (arith, once)) in
    other (eqb d b) (count d (before ++ d ∷ l)) once some ih
  where
    other : (t : Bool) (k : ℕ) → ◌≤◌ (cond t 1 0 + k) 1 → 0 < k → behind d (before ++ d ∷ l) ≡ length l
        → cond t (length (before ++ d ∷ l)) (behind d (before ++ d ∷ l)) ≡ length l
    other true k once some ih = absurd (omega (arith, once, some))
    other false k once some ih = ih

-- no more than there are
pub behind_few : (d : ℕ) (l : List ℕ) → behind d l ≤ length l
behind_few d [] = omega arith
behind_few d (b ∷ l) = one (eqb d b) (behind_few d l)
  where
    one : (t : Bool) → behind d l ≤ length l → cond t (length l) (behind d l) ≤ length (b ∷ l)
    one true h = omega arith
    one false h = omega (arith, h)
