-- Where a pair that is not marked may be taken out, it stands nowhere else, but copied in older tables.
use Rattle.std.proofs.Common.{◌≡◌, ◌≢◌, ℕ, ◌<◌, ◌≤◌, Bool, true, false, ◌⊎◌, inl, inr, ap, sym, ◌∙◌, arith}
use Rattle.std.proofs.lemmas.Bool.{cases_order}
use Rattle.map_machines.specs.Given.TablesDeclared.status.TheConstants.Status.{ABORTED}
use Rattle.map_rule.specs.Chart.{Phase, Still, Copying, Copied, Holds, Chart}
use Rattle.map_rule.specs.Rule.{IsLawful, is_of, Shut, IsMoving, Common, Incremental, Blocking}
use Rattle.map_rule.proofs.Stores.Exchanges.{StoodStill, stands_within}

module _ {K : Type 0} (same : K → K → Bool) (spot : ℕ → K → ℕ → ℕ) where
  -- a pair stands once in a table that was not aborted
  pub alone_there : (incremental : Bool) → IsLawful same spot → (c : Chart K) → Common same spot incremental c → (t i j n : ℕ) (phase phase2 : Phase) (borrowed borrowed2 : Bool)
      → c.status t ≢ ABORTED → c.place t i ≡ Holds n phase borrowed → c.place t j ≡ Holds n phase2 borrowed2 → (i ≡ j) × (phase ≡ phase2)
  alone_there incremental lawful c inv t i j n phase phase2 borrowed borrowed2 live e f = (here, grind (arith, here, e, f))
    where
      here : i ≡ j
      here =
          let w = inv.keyed t i n phase borrowed e in
          let own : is_of same spot incremental w.1 (c.key n) ≡ true = ap (is_of same spot incremental w.1) w.2 ∙ lawful.classes.refl w.1 in
          inv.once t i j n n phase phase2 borrowed borrowed2 w.1 live e f own own

  -- in incremental mode, it stands in no table before the root
  pub home_incremental : (c : Chart K) → Common same spot true c → Incremental same spot true c → (t i n : ℕ) (borrowed : Bool) → c.place t i ≡ Holds n Still borrowed
      → c.first ≤ t
  home_incremental c inv bit t i n borrowed e =
      let w = stands_within same spot true c inv t i n Still borrowed e in
      grind (arith, bit.settled t i, w.0, w.1, e)

  -- nor in a later one
  pub never_later : IsLawful same spot → (c : Chart K) → Common same spot true c → Incremental same spot true c → (t u i j n : ℕ) (phase : Phase) (borrowed borrowed2 : Bool)
      → c.place t i ≡ Holds n Still borrowed → c.place u j ≡ Holds n phase borrowed2 → t < u → ⊥
  never_later lawful c inv bit t u i j n phase borrowed borrowed2 e f l =
      let w = inv.keyed t i n Still borrowed e in
      let own : is_of same spot true w.1 (c.key n) ≡ true = ap (is_of same spot true w.1) w.2 ∙ lawful.classes.refl w.1 in
      at w.1 own (bit.chain t u j n phase borrowed2 w.1 f w.2 l (home_incremental c inv bit t i n borrowed e))
    where
      at : (k : K) → is_of same spot true k (c.key n) ≡ true → Shut same spot true c t k ⊎ ((t ≡ c.first) × (borrowed2 ≡ true) × IsMoving same spot true c n) → ⊥
      at k own (inl shut) = let h = shut.0 i n Still borrowed e own in cc
      at k own (inr (p, q, moving)) =
          let f : c.place t moving.0 ≡ Holds n Copying moving.1 = ap (λ (x : ℕ). c.place x moving.0) p ∙ moving.2 in
          let h = (alone_there true lawful c inv t i moving.0 n Still Copying borrowed moving.1 (bit.never_aborted t) e f).1 in
          cc h

  -- in incremental mode, it stands only in older tables beside, copied
  pub alone_incremental : IsLawful same spot → (c : Chart K) → Common same spot true c → Incremental same spot true c → (t i n : ℕ) (borrowed : Bool) (k : K)
      → StoodStill same spot true c t i n borrowed k → (u j : ℕ) (phase : Phase) (borrowed2 : Bool) → c.place u j ≡ Holds n phase borrowed2
      → ((u ≡ t) × (j ≡ i)) ⊎ ((u < t) × (phase ≡ Copied))
  alone_incremental lawful c inv bit t i n borrowed k h u j phase borrowed2 e = at (cases_order u t)
    where
      at : (u ≡ t) ⊎ ((u < t) ⊎ (t < u)) → ((u ≡ t) × (j ≡ i)) ⊎ ((u < t) × (phase ≡ Copied))
      at (inl same_table) =
          let f : c.place t j ≡ Holds n phase borrowed2 = ap (λ (x : ℕ). c.place x j) (sym same_table) ∙ e in
          inl (same_table, sym (alone_there true lawful c inv t i j n Still phase borrowed borrowed2 (bit.never_aborted t) h.stood f).0)
      at (inr (inl before)) = inr (before, (h.may u before).0 j n phase borrowed2 e h.of_class)
      at (inr (inr behind)) = absurd (never_later lawful c inv bit t u i j n phase borrowed borrowed2 h.stood e behind)

  -- at once, it stands in the root, and there alone
  pub alone_blocking : IsLawful same spot → (c : Chart K) → Common same spot false c → (t i n : ℕ) (borrowed : Bool) (k : K)
      → StoodStill same spot false c t i n borrowed k → (u j : ℕ) (phase : Phase) (borrowed2 : Bool) → c.place u j ≡ Holds n phase borrowed2
      → u ≡ c.first → (u ≡ t) × (j ≡ i)
  alone_blocking lawful c inv t i n borrowed k h u j phase borrowed2 e root =
      let f : c.place c.first j ≡ Holds n phase borrowed2 = ap (λ (x : ℕ). c.place x j) (sym root) ∙ e in
      let g : c.place c.first i ≡ Holds n Still borrowed = ap (λ (x : ℕ). c.place x i) (sym h.may) ∙ h.stood in
      (root ∙ sym h.may, sym (alone_there false lawful c inv c.first i j n Still phase borrowed borrowed2 inv.live g f).0)

  -- at once, no later table names it, unless that was aborted
  pub nowhere_later : IsLawful same spot → (c : Chart K) → Common same spot false c → Blocking same spot false c → (t i n : ℕ) (borrowed : Bool) (k : K)
      → StoodStill same spot false c t i n borrowed k → (u j : ℕ) (phase : Phase) (borrowed2 : Bool) → c.first < u → c.status u ≢ ABORTED
      → c.place u j ≡ Holds n phase borrowed2 → ⊥
  nowhere_later lawful c inv once t i n borrowed k h u j phase borrowed2 later live e =
      let w = once.targets u j n phase borrowed2 later live e in
      let g : c.place c.first i ≡ Holds n Still borrowed = ap (λ (x : ℕ). c.place x i) (sym h.may) ∙ h.stood in
      let p = (alone_there false lawful c inv c.first i w.0 n Still Copying borrowed false inv.live g w.2).1 in
      cc p
