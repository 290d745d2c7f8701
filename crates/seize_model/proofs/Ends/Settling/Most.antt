-- A settling row takes no more steps, until it ends or waits, than a number of its memory and its machine, and each step lowers how many it still takes.
use Rattle.std.specs.Prelude.{Option, ◌/◌}
use Rattle.std.proofs.Common.{◌≡◌, ℕ, zero, suc, ◌+◌, ◌*◌, ◌<◌, ◌≤◌, Bool, true, false, cond, eqb, List, [], ◌∷◌, length, refl, arith, ap, subst}
use Rattle.seize.specs.Given.SeizeWordsMem.{Mem, Took, value_at}
use Rattle.seize.specs.Given.SeizeWordsPlan.{Steps}
use Rattle.seize.specs.declared.states.TheConstants.{LAST_SLOT}
use Rattle.seize.specs.declared.rows.settle.Settle.{Settle}
use Rattle.seize.specs.declared.rows.settle.Settling.{Settling}
use Rattle.seize.specs.declared.rows.settle.Settling.TheVariants as at
use Rattle.seize.specs.declared.rows.settle.Settled.{Settled}
use Rattle.seize.specs.declared.rows.settle.Settled.TheVariants.{Goes, Waits, Gave, Done}
use Rattle.seize.specs.Settle.{plan_at, settle_plan}
use Rattle.seize_rule.specs.Given.SeizeWaitingHeld.{count, same}
use Rattle.seize_rule.proofs.Given.SeizeMovesState.Ghost.{State, Life, is_pending}
use Rattle.seize_rule.proofs.Given.SeizeMovesState.Rule.{Inv}
use Rattle.seize_rule.proofs.Given.SeizeMemoryWords.Chains.{blocks_of}
use Rattle.seize_rule.proofs.Given.SeizeMemoryWords.Sums.{sum_of, sum_same, sum_le, list_below, count_stands, blocks_long}
use Rattle.seize_rule.proofs.Given.SeizeMemoryWords.View.{View, view}
use Rattle.seize_rule.proofs.Given.SeizeMemoryWords.Shows.{Spot, Nowhere, Unspent, On, InHands, SpotLife, Extra, Shows, lives, stands, is_in_hands}
use Rattle.seize_rule.proofs.Words.Kept.{settle_quiet}
use Rattle.seize_rule.proofs.Points.Settle.{is_over}
use Rattle.seize_model.proofs.Ends.Settling.Measure.{weight, behind_of, point, ahead_of, ends}
use Rattle.seize_model.proofs.Ends.Settling.Moves.{Below}
use Rattle.seize_model.proofs.Ends.Settling.Among.{Among, among_on, below_lives}
use Rattle.seize_model.proofs.Ends.Batches.Held.{GoesOn}
use Rattle.seize_model.proofs.Ends.Rows.Run.{EndsWithin, to_go, to_go_falls}

behind_le : (d : ℕ) (l : List ℕ) → behind_of d l ≤ length l
behind_le d [] = omega arith
behind_le d (c ∷ l) = one (eqb d c) (behind_le d l)
  where
    one : (t : Bool) → behind_of d l ≤ length l → cond t (length l) (behind_of d l) ≤ length (c ∷ l)
    one true h = omega arith
    one false h = omega (arith, h)

weight_le : (n : ℕ) (l : Life) → weight n l ≤ 10 * n + 16
weight_le n l = grind arith

module _ (n bound i : ℕ) (f : View) (m : State) (x : Extra) (inv : Inv n m) (v : Shows n f m x) (below : Below bound m.life) where
  loose_once : (c : ℕ) → (count c (blocks_of (m.loose i)) ≤ 1) × (0 < count c (blocks_of (m.loose i)) → lives (m.life c) ≡ true)
  loose_once c = one (x.spot c) (λ b. v.entries.hands i b c) (v.entries.spots c)
    where
      none : ((b : ℕ) → stands c b (m.loose i) ≡ 0) → (count c (blocks_of (m.loose i)) ≤ 1) × (0 < count c (blocks_of (m.loose i)) → lives (m.life c) ≡ true)
      none h = let k = count_stands c 0 (m.loose i) (λ b. let a = h b in omega (arith, a)) in let a = h 0 in (omega (arith, k, a), λ p. absurd (omega (arith, k, a, p)))

      same_le : (t : Bool) (b y : ℕ) → cond t (same b y) 0 ≤ same b y
      same_le true b y = omega arith
      same_le false b y = omega arith

      same_one : (b y : ℕ) → same b y ≤ 1
      same_one b y = grind arith

      one : (p : Spot) → ((b : ℕ) → stands c b (m.loose i) ≡ is_in_hands i b p) → SpotLife p (m.life c) → (count c (blocks_of (m.loose i)) ≤ 1) × (0 < count c (blocks_of (m.loose i)) → lives (m.life c) ≡ true)
      one Nowhere h s = none h
      one (Unspent y) h s = none h
      one (On t y) h s = none h
      one (InHands j y) h s =
          let k = count_stands c y (m.loose i) (λ b. let a = h b in let d = same_le (eqb i j) b y in omega (arith, a, d)) in
          let a = h y in
          let d = same_le (eqb i j) y y in
          let z = same_one y y in
          (omega (arith, k, a, d, z), λ p. ap lives s)

  loose_below : length (m.loose i) ≤ bound
  loose_below =
      let a = list_below (blocks_of (m.loose i)) bound (λ c. (loose_once c).0) (λ c p. below c ((loose_once c).1 p)) in
      let b = blocks_long (m.loose i) in
      omega (arith, a, b)

  puts_below : length (m.puts i) ≤ bound
  puts_below = list_below (m.puts i) bound (λ c. (one c (m.life c) (inv.places.to_retire i c)).0) (λ c p. below c ((one c (m.life c) (inv.places.to_retire i c)).1 p))
    where
      one : (c : ℕ) (l : Life) → count c (m.pending i) + count c (m.puts i) ≡ is_pending i l → (count c (m.puts i) ≤ 1) × (0 < count c (m.puts i) → lives l ≡ true)
      one c l h = (grind (arith, h), λ p. grind (arith, h, p))

-- what a point is at most
abbrev pub most_at : ℕ → ℕ → Settling → ℕ
most_at n bound (at.Scans slot block marks) = 10 * n + 6 * marks + 9
most_at n bound (at.Marks slot block marks) = 10 * n + 6 * marks + 9
most_at n bound (at.Marked slot block marks) = 10 * n + 6 * marks + 9
most_at n bound (at.Closes marks) = 6 * marks + 9
most_at n bound (at.Reads block left pushed) = 6 * left + 9
most_at n bound (at.Links block left pushed slot head) = 6 * left + 9
most_at n bound (at.Pushes block left pushed slot head) = 6 * left + 9
most_at n bound (at.Pushed block left pushed) = 6 * left + 9
most_at n bound (at.Tails next) = bound + 3
most_at n bound _ = 10 * n + 15

abbrev pub most : ℕ → ℕ → Settle → ℕ
most n bound c = bound * (10 * n + 22) + (ahead_of n c + most_at n bound c.stands)

point_le : (n bound : ℕ) (f : View) (puts : List ℕ) (c : Settle) (p : Settling) → length puts ≤ bound → point n f puts c p ≤ most_at n bound p
point_le n bound f puts c at.Sees h = omega arith
point_le n bound f puts c at.Holds h = one (eqb (f.batches c.slot) c.last)
  where
    one : (t : Bool) → cond t 2 4 ≤ 10 * n + 15
    one true = omega arith
    one false = omega arith
point_le n bound f puts c at.Pops h = omega arith
point_le n bound f puts c (at.Firsts block) h = one (eqb block 0)
  where
    one : (t : Bool) → cond t (10 * n + 10) 5 ≤ 10 * n + 15
    one true = omega arith
    one false = omega arith
point_le n bound f puts c (at.Batches block) h = omega arith
point_le n bound f puts c (at.Ends block) h = omega arith
point_le n bound f puts c (at.Appends block) h = omega arith
point_le n bound f puts c (at.Counts block) h = omega arith
point_le n bound f puts c (at.Scans slot block marks) h = omega arith
point_le n bound f puts c (at.Marks slot block marks) h = omega arith
point_le n bound f puts c (at.Marked slot block marks) h = omega arith
point_le n bound f puts c (at.Closes marks) h = omega arith
point_le n bound f puts c (at.Reads block left pushed) h = omega arith
point_le n bound f puts c (at.Links block left pushed slot head) h = one (eqb (f.heads slot) head)
  where
    one : (t : Bool) → 6 * left + cond t 4 6 ≤ 6 * left + 9
    one true = omega arith
    one false = omega arith
point_le n bound f puts c (at.Pushes block left pushed slot head) h = one (eqb (f.heads slot) head)
  where
    one : (t : Bool) → 6 * left + cond t 3 5 ≤ 6 * left + 9
    one true = omega arith
    one false = omega arith
point_le n bound f puts c (at.Pushed block left pushed) h = omega arith
point_le n bound f puts c (at.Sums pushed) h = omega arith
point_le n bound f puts c at.Nexts h = omega arith
point_le n bound f puts c (at.Drains next word) h = omega arith
point_le n bound f puts c (at.Joins next more) h = omega arith
point_le n bound f puts c (at.Tails next) h = let a = behind_le (c.put_last / 2048) puts in omega (arith, a, h)
point_le n bound f puts c (at.Takes next) h = omega arith
point_le n bound f puts c at.Puts h = omega arith
point_le n bound f puts c at.Lists h = omega arith
point_le n bound f puts c (at.Owns next) h = omega arith
point_le n bound f puts c (at.Downs next batch) h = omega arith
point_le n bound f puts c at.Gives h = omega arith
point_le n bound f puts c at.Over h = omega arith

-- it goes on
abbrev pub is_going : {T : Type 0} → Settled T → Bool
is_going Goes = true
is_going Waits = true
is_going (Gave value) = true
is_going Done = false

-- and does not wait
abbrev pub goes_further : {T : Type 0} → Settled T → Bool
goes_further Goes = true
goes_further Waits = false
goes_further (Gave value) = true
goes_further Done = false

-- how many steps a settling row takes, as long as its steps say so
abbrev pub settle_steps_left : {T : Type 0} → (T → Option ℕ) → (Settled T → Bool) → Mem T → Settle → ℕ
settle_steps_left defers goes mem c = to_go (settle_plan defers) goes (suc (most (LAST_SLOT + 1) (length mem.blocks + 1) c)) mem c

-- How many steps a settling row takes that runs alone.
abbrev pub settle_to_go : {T : Type 0} → (T → Option ℕ) → Mem T → Settle → ℕ
settle_to_go defers mem c = settle_steps_left defers is_going mem c

-- What a settling row relies on lasts while its steps say that it goes on, and each of them lowers what is left.
pub record Lowers {T : Type 0} (defers : T → Option ℕ) (n i : ℕ) (goes : Settled T → Bool) (Known : ℕ → Mem T → State → Extra → Settle → Type 0) : Type 0 where
  pub stops : goes Done ≡ false
  pub among : (bound : ℕ) (mem : Mem T) (m : State) (x : Extra) (c : Settle) → Known bound mem m x c → Among defers n bound i mem m x c
  pub on : (bound : ℕ) (mem : Mem T) (m : State) (x : Extra) (c : Settle) → Known bound mem m x c
      → (mem2 : Mem T) (end : Settle × Settled T) → is_over c.stands ≡ false → Steps Took value_at mem (settle_plan defers c) mem2 end → goes end.1 ≡ true
      → (m2 : State) × (x2 : Extra) × Known bound mem2 m2 x2 end.0 × (ends n bound i m2 (view defers mem2) end.0 < ends n bound i m (view defers mem) c)

further_on : {T : Type 0} (o : Settled T) → goes_further o ≡ true → GoesOn o
further_on Goes e = tt
further_on Waits e = absurd (cc e)
further_on (Gave value) e = tt
further_on Done e = absurd (cc e)

-- so it is, whatever rows others have under way, while it does not wait
pub among_lowers : {T : Type 0} (defers : T → Option ℕ) (n i : ℕ) → n ≡ LAST_SLOT + 1 → Lowers defers n i goes_further (λ bound. Among defers n bound i)
among_lowers defers n i last = record {
  stops = refl;
  among = λ bound mem m x c r. r;
  on = λ bound mem m x c r mem2 end o st going.
      (let h = among_on defers n bound i last mem m x c r mem2 end o (further_on end.1 going) st in (h.m2, h.x2, h.among, h.less));
}

module _ {T : Type 0} (defers : T → Option ℕ) (n bound i : ℕ) (last : n ≡ LAST_SLOT + 1) where
  pub ends_most : (mem : Mem T) (m : State) (x : Extra) (c : Settle) (r : Among defers n bound i mem m x c) → ends n bound i m (view defers mem) c ≤ most n bound c
  ends_most mem m x c r =
      let below = below_lives defers n bound i last mem m x c r in
      let a = sum_le (λ b. 10 * n + 16) (λ b. weight n (m.life b)) bound (λ b. weight_le n (m.life b)) in
      let b = sum_same (10 * n + 16) bound in
      let l = loose_below n bound i (view defers mem) m x r.inv r.shows below in
      let p = point_le n bound (view defers mem) (m.puts i) c c.stands (puts_below n bound i (view defers mem) m x r.inv r.shows below) in
      all (sum_of (λ b. weight n (m.life b)) bound) (length (m.loose i)) (ahead_of n c) (point n (view defers mem) (m.puts i) c c.stands) (most_at n bound c.stands) (omega (arith, a, b)) l p
    where
      all : (s l h p q : ℕ) → s ≤ bound * (10 * n + 16) → l ≤ bound → p ≤ q → s + 6 * l + (h + p) ≤ bound * (10 * n + 22) + (h + q)
      all s l h p q a b z = omega (arith, a, b, z)

module _ {T : Type 0} (defers : T → Option ℕ) (goes : Settled T → Bool) (stops : goes Done ≡ false) where
  -- its last step ends it
  pub not_over : (mem mem2 : Mem T) (c : Settle) (end : Settle × Settled T) → Steps Took value_at mem (settle_plan defers c) mem2 end → goes end.1 ≡ true → is_over c.stands ≡ false
  not_over mem mem2 c end st going = one (is_over c.stands) refl
    where
      over_is : (p : Settling) → is_over p ≡ true → p ≡ at.Over
      over_is p e = grind arith

      done : (mem2 ≡ mem) × (end ≡ (c, Done)) → ⊥
      done h = let a = ap (λ (q : Settle × Settled T). goes q.1) h.1 in cc (a, stops, going)

      one : (t : Bool) → is_over c.stands ≡ t → t ≡ false
      one true e = absurd (done (subst (λ (p : Settling). Steps Took value_at mem (plan_at defers c p) mem2 end) (over_is c.stands e) st))
      one false e = refl

module _ {T : Type 0} (defers : T → Option ℕ) (n i : ℕ) (last : n ≡ LAST_SLOT + 1) (goes : Settled T → Bool) (Known : ℕ → Mem T → State → Extra → Settle → Type 0)
    (lowers : Lowers defers n i goes Known) where
  -- it goes on for no more steps than its number says
  pub ends_within : (k bound : ℕ) (mem : Mem T) (m : State) (x : Extra) (c : Settle) → Known bound mem m x c → ends n bound i m (view defers mem) c ≤ k
      → EndsWithin (settle_plan defers) goes (suc k) mem c
  ends_within zero bound mem m x c r le mem2 end st going =
      let h = lowers.on bound mem m x c r mem2 end (not_over defers goes lowers.stops mem mem2 c end st going) st going in
      absurd (let a = h.3 in omega (arith, a, le))
  ends_within (suc k) bound mem m x c r le mem2 end st going =
      let h = lowers.on bound mem m x c r mem2 end (not_over defers goes lowers.stops mem mem2 c end st going) st going in
      ends_within k bound mem2 h.0 h.1 end.0 h.2 (let a = h.3 in omega (arith, a, le))

module _ {T : Type 0} (defers : T → Option ℕ) (i : ℕ) (goes : Settled T → Bool) (Known : ℕ → Mem T → State → Extra → Settle → Type 0)
    (lowers : Lowers defers (LAST_SLOT + 1) i goes Known) (bound : ℕ) (mem mem2 : Mem T) (m : State) (x : Extra) (c : Settle) (end : Settle × Settled T) where
  -- each step after which it goes on lowers how many it still takes
  pub settle_falls : Known bound mem m x c → Steps Took value_at mem (settle_plan defers c) mem2 end → goes end.1 ≡ true
      → settle_steps_left defers goes mem2 end.0 < settle_steps_left defers goes mem c
  settle_falls r st going =
      let n = LAST_SLOT + 1 in
      let h = lowers.on bound mem m x c r mem2 end (not_over defers goes lowers.stops mem mem2 c end st going) st going in
      let r2 = h.2 in
      let among = lowers.among bound mem m x c r in
      let among2 = lowers.among bound mem2 h.0 h.1 end.0 r2 in
      let a = ends_most defers n bound i refl mem m x c among in
      let b = ends_most defers n bound i refl mem2 h.0 h.1 end.0 among2 in
      let most1 : most n bound c ≡ most n (length mem.blocks + 1) c = ap (λ k. most n k c) among.bounded in
      let most2 : most n bound end.0 ≡ most n (length mem2.blocks + 1) end.0 = ap (λ k. most n k end.0) among2.bounded in
      to_go_falls (settle_plan defers) goes (suc (ends n bound i m (view defers mem) c)) (suc (most n (length mem.blocks + 1) c))
      (suc (ends n bound i h.0 (view defers mem2) end.0)) (suc (most n (length mem2.blocks + 1) end.0)) mem mem2 c end (settle_quiet defers c c.stands)
      (ends_within defers n i refl goes Known lowers (ends n bound i m (view defers mem) c) bound mem m x c r (omega arith)) (up _ _ _ a most1)
      (ends_within defers n i refl goes Known lowers (ends n bound i h.0 (view defers mem2) end.0) bound mem2 h.0 h.1 end.0 r2 (omega arith)) (up _ _ _ b most2) st going
    where
      up : (a b d : ℕ) → a ≤ b → b ≡ d → suc a ≤ suc d
      up a b d l e = omega (arith, l, e)
