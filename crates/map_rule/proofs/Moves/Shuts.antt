-- Classes of keys and the places of one, and what it means that a table is shut for one.
use Rattle.std.proofs.Common.{◌≡◌, ◌≢◌, ℕ, zero, suc, ◌<◌, ◌≤◌, Bool, true, false, Option, Some, None, ◌⊎◌, inl, inr, refl, ap, sym, ◌∙◌, arith}
use Rattle.std.proofs.lemmas.Bool.{cases_lt, cases_order}
use Rattle.map_machines.specs.Given.TablesDeclared.status.TheConstants.Status.{ABORTED}
use Rattle.map_rule.specs.Chart.{Phase, Copied, Place, Empty, Tombstone, Holds, Chart, is_settled, is_taken}
use Rattle.map_rule.specs.Rule.{IsLawful, is_of, tried, Passed, OnPath, WasCopied, Full, Shut, Common, Rule}

-- an empty place without a mark is not taken
pub open_taken : (incremental : Bool) (p : Place) → p ≡ Empty false → is_taken incremental p ≡ true → ⊥
open_taken incremental p e taken = grind arith

-- in incremental mode, a place where nothing is left to copy is taken
pub settled_taken : (p : Place) → is_settled p ≡ true → is_taken true p ≡ true
settled_taken (Empty marked) e = e
settled_taken (Tombstone marked) e = refl
settled_taken (Holds n phase borrowed) e = refl

pub settled_copied : (p : Place) (n : ℕ) (phase : Phase) (borrowed : Bool) → is_settled p ≡ true → p ≡ Holds n phase borrowed → phase ≡ Copied
settled_copied p n phase borrowed settled e = grind arith

module _ {K : Type 0} (same : K → K → Bool) (spot : ℕ → K → ℕ → ℕ) where
  -- keys of one class have the same pairs
  pub of_class : (incremental : Bool) → IsLawful same spot → (k other : K) (key : Option K) → same k other ≡ true
      → is_of same spot incremental k key ≡ is_of same spot incremental other key
  of_class incremental lawful k other None e = refl
  of_class incremental lawful k other (Some key) e = lawful.classes.congr k other key e

  pub tried_class : (incremental : Bool) → IsLawful same spot → (c : Chart K) (t : ℕ) (k other : K) (j : ℕ) → same k other ≡ true
      → tried same spot incremental c t k j ≡ tried same spot incremental c t other j
  tried_class incremental lawful c t k other j e = ap (c.place t) (lawful.respects (c.len t) j k other e)

  pub taken_class : (incremental : Bool) → IsLawful same spot → (c : Chart K) (t : ℕ) (k other : K) (j : ℕ) → same k other ≡ true
      → is_taken incremental (tried same spot incremental c t k j) ≡ is_taken incremental (tried same spot incremental c t other j)
  taken_class incremental lawful c t k other j e = ap (is_taken incremental) (tried_class incremental lawful c t k other j e)

  pub full_class : (incremental : Bool) → IsLawful same spot → (c : Chart K) (t : ℕ) (k other : K) → same k other ≡ true
      → Full same spot incremental c t k → Full same spot incremental c t other
  full_class incremental lawful c t k other e full j l = sym (taken_class incremental lawful c t k other j e) ∙ full j l

  pub shut_class : (incremental : Bool) → IsLawful same spot → (c : Chart K) (t : ℕ) (k other : K) → same k other ≡ true
      → Shut same spot incremental c t k → Shut same spot incremental c t other
  shut_class incremental lawful c t k other e shut =
      (λ i n phase borrowed at is. shut.0 i n phase borrowed at (of_class incremental lawful k other (c.key n) e ∙ is), either shut.1)
    where
      either : WasCopied same spot incremental c t k ⊎ Full same spot incremental c t k → WasCopied same spot incremental c t other ⊎ Full same spot incremental c t other
      either (inl w) = inl (w.0, w.1, w.2, w.3, sym (of_class incremental lawful k other (c.key w.1) e) ∙ w.4)
      either (inr full) = inr (full_class incremental lawful c t k other e full)

  -- the key of a pair of the class is of the class
  pub key_class : (incremental : Bool) (k owner : K) (key : Option K) → key ≡ Some owner → is_of same spot incremental k key ≡ true → same k owner ≡ true
  key_class incremental k owner key e is = let h : is_of same spot incremental k key ≡ same k owner = ap (is_of same spot incremental k) e in sym h ∙ is

  -- a pair of a class has a key of it
  pub keyed_class : (incremental : Bool) (c : Chart K) → Common same spot incremental c → (k : K) (t i n : ℕ) (phase : Phase) (borrowed : Bool)
      → c.place t i ≡ Holds n phase borrowed → is_of same spot incremental k (c.key n) ≡ true → (owner : K) × (c.key n ≡ Some owner) × (same k owner ≡ true)
  keyed_class incremental c inv k t i n phase borrowed at is =
      let kept = inv.keyed t i n phase borrowed at in (kept.1, kept.2, key_class incremental k kept.1 (c.key n) kept.2 is)

  -- a pair of a class stands at a try of the class, behind places that are taken
  pub on_class_path : (incremental : Bool) → IsLawful same spot → (c : Chart K) → Common same spot incremental c → (k : K) (t i n : ℕ) (phase : Phase) (borrowed : Bool)
      → c.status t ≢ ABORTED → c.place t i ≡ Holds n phase borrowed → is_of same spot incremental k (c.key n) ≡ true → OnPath same spot incremental c t i k
  on_class_path incremental lawful c inv k t i n phase borrowed live at is =
      let kept = keyed_class incremental c inv k t i n phase borrowed at is in
      let path = inv.on_path t i n phase borrowed kept.0 live at kept.1 in (
        path.0,
        path.1,
        lawful.respects (c.len t) path.0 k kept.0 kept.2 ∙ path.2,
        λ g l. taken_class incremental lawful c t k kept.0 g kept.2 ∙ path.3 g l,
      )

  -- Behind tries that are passed, at an empty place: the table has no pair of the class.
  pub none_at_open : (incremental : Bool) → IsLawful same spot → (c : Chart K) → Common same spot incremental c → (t : ℕ) (k : K) (j : ℕ)
      → c.status t ≢ ABORTED → Passed same spot incremental c t k j → tried same spot incremental c t k j ≡ Empty false
      → (i n : ℕ) (phase : Phase) (borrowed : Bool) → c.place t i ≡ Holds n phase borrowed → is_of same spot incremental k (c.key n) ≡ true → ⊥
  none_at_open incremental lawful c inv t k j live passed empty i n phase borrowed at is =
      let path = on_class_path incremental lawful c inv k t i n phase borrowed live at is in
      by_order path.0 (cases_order path.0 j) (ap (c.place t) path.2 ∙ at) (path.3 j)
    where
      by_order : (g : ℕ) → (g ≡ j) ⊎ ((g < j) ⊎ (j < g)) → tried same spot incremental c t k g ≡ Holds n phase borrowed
          → (j < g → is_taken incremental (tried same spot incremental c t k j) ≡ true) → ⊥
      by_order g (inl e) here taken = cc (ap (tried same spot incremental c t k) e)
      by_order g (inr (inl l)) here taken = cc ((passed g l).1)
      by_order g (inr (inr l)) here taken = open_taken incremental (tried same spot incremental c t k j) empty (taken l)

  -- Behind tries that are passed to the last one: the table has no pair of the class.
  pub none_at_end : (incremental : Bool) → IsLawful same spot → (c : Chart K) → Common same spot incremental c → (t : ℕ) (k : K)
      → c.status t ≢ ABORTED → Passed same spot incremental c t k (suc (c.limit t))
      → (i n : ℕ) (phase : Phase) (borrowed : Bool) → c.place t i ≡ Holds n phase borrowed → is_of same spot incremental k (c.key n) ≡ true → ⊥
  none_at_end incremental lawful c inv t k live passed i n phase borrowed at is =
      let path = on_class_path incremental lawful c inv k t i n phase borrowed live at is in
      let l = path.1 in
      let here : tried same spot incremental c t k path.0 ≡ Holds n phase borrowed = ap (c.place t) path.2 ∙ at in
      cc ((passed path.0 (omega arith)).1)

  -- in incremental mode: where nothing is left to copy the table is shut for all classes
  pub settled_shut : IsLawful same spot → (c : Chart K) → Common same spot true c → (t : ℕ) → t < c.past
      → ((i : ℕ) → i < c.len t → is_settled (c.place t i) ≡ true) → (k : K) → Shut same spot true c t k
  settled_shut lawful c inv t l settled k = (
    λ i n phase borrowed at is. held i n phase borrowed at (cases_lt i (c.len t)),
    inr (λ j h. settled_taken (tried same spot true c t k j) (settled (spot (c.len t) k j) (lawful.within (c.len t) j k (inv.lens t l).0))),
  )
    where
      held : (i n : ℕ) (phase : Phase) (borrowed : Bool) → c.place t i ≡ Holds n phase borrowed → (i < c.len t) ⊎ (c.len t ≤ i) → phase ≡ Copied
      held i n phase borrowed at (inl h) = settled_copied (c.place t i) n phase borrowed (settled i h) at
      held i n phase borrowed at (inr h) = cc (inv.outside t i l h)

  -- in incremental mode: the tables before the root are shut for all classes
  pub past_shut : IsLawful same spot → (c : Chart K) → Rule same spot true c → (t : ℕ) → t < c.first → (k : K) → Shut same spot true c t k
  past_shut lawful c inv t l k =
      settled_shut lawful c inv.common t (let h = inv.common.rooted (past_there l) in omega (arith, h)) (λ i h. inv.in_mode.settled t i l h) k
    where
      past_there : t < c.first → 0 < c.past
      past_there l = by_past (c.past) refl
        where
          by_past : (p : ℕ) → c.past ≡ p → 0 < c.past
          by_past zero e = absurd (let h = inv.common.rootless e in omega (arith, h))
          by_past (suc p) e = omega arith

  -- a table that is shut for a class has no empty place for it behind tries that are passed
  pub shut_not_open : (incremental : Bool) → IsLawful same spot → (c : Chart K) → Common same spot incremental c → (t : ℕ) (k : K) (j : ℕ)
      → c.status t ≢ ABORTED → Shut same spot incremental c t k → Passed same spot incremental c t k j → j ≤ c.limit t
      → tried same spot incremental c t k j ≡ Empty false → ⊥
  shut_not_open incremental lawful c inv t k j live shut passed l empty = either shut.1
    where
      either : WasCopied same spot incremental c t k ⊎ Full same spot incremental c t k → ⊥
      either (inl w) = none_at_open incremental lawful c inv t k j live passed empty w.0 w.1 Copied w.2 w.3 w.4
      either (inr full) = open_taken incremental (tried same spot incremental c t k j) empty (full j l)

  -- pairs of one class in one table that is not aborted are one
  pub one_in_table : (incremental : Bool) (c : Chart K) → Common same spot incremental c → (k : K) (t i j n o : ℕ) (phase phase2 : Phase) (borrowed borrowed2 : Bool)
      → c.status t ≢ ABORTED → c.place t i ≡ Holds n phase borrowed → is_of same spot incremental k (c.key n) ≡ true
      → c.place t j ≡ Holds o phase2 borrowed2 → is_of same spot incremental k (c.key o) ≡ true → (o ≡ n) × (phase2 ≡ phase) × (borrowed2 ≡ borrowed) × (j ≡ i)
  one_in_table incremental c inv k t i j n o phase phase2 borrowed borrowed2 live at is at2 is2 =
      let e = inv.once t i j n o phase phase2 borrowed borrowed2 k live at at2 is is2 in
      let f = ap (c.place t) e in (cc, cc, cc, sym e)
