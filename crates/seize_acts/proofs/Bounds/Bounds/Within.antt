-- A row that counts a list down, where no value keeps a list, has done so within a number of its own steps, whatever the others do meanwhile.
use Rattle.std.specs.Prelude.{Option}
use Rattle.std.proofs.Common.{◌≡◌, ℕ, zero, suc, ◌+◌, ◌*◌, ◌<◌, ◌≤◌, Bool, true, false, List, [], ◌∷◌, length, inl, inr, refl, arith, ap, sym, subst, ◌∙◌}
use Rattle.seize.specs.declared.states.TheConstants.{LAST_SLOT}
use Rattle.seize.specs.declared.rows.settle.Settle.{Settle}
use Rattle.seize.specs.declared.rows.settle.Settling.{Settling}
use Rattle.seize.specs.declared.rows.settle.Settling.TheVariants as at
use Rattle.seize.specs.declared.rows.leave.Leave.{Leave}
use Rattle.seize.specs.Settle.{counting_down}
use Rattle.seize.specs.World.{World, Row, Event, Steps', at_start}
use Rattle.seize_model.proofs.Given.SeizeMovesState.Ghost.{Life, is_doomed}
use Rattle.seize_model.proofs.Given.SeizeMemoryWords.Sums.{list_below}
use Rattle.seize_model.proofs.Given.SeizeMemoryWords.Shows.{lives}
use Rattle.seize_model.proofs.Given.SeizeRulePoints.Settle.{is_over}
use Rattle.seize_model.proofs.Given.SeizeRuleWorld.Good.{Good}
use Rattle.seize_model.proofs.Given.SeizeRuleWorld.Start.{start_good}
use Rattle.seize_model.proofs.Alone.Histories.Reached.{Reached, runs_reached}
use Rattle.seize_acts.specs.Bounds.Bounds.{HasCounted, ArePlain, Meanwhile, CountsWithin, ListsAreCounted}
use Rattle.seize_acts.proofs.Bounds.Bounds.Machine.{IsCounting, OnlyCounts, MOST, point, each, weight}
use Rattle.seize_acts.proofs.Bounds.Bounds.Hands.{after_event}
use Rattle.seize_acts.proofs.Bounds.Bounds.Rows.{AsItLeaves, as_row, form_fits, own_step as row_step}
use Rattle.seize_acts.proofs.Bounds.Bounds.Steps.{step_less}
use Rattle.seize_acts.proofs.Bounds.Bounds.Values.{plain_kept}

module _ {T : Type 0} (defers : T → Option ℕ) (size j : ℕ) where
  -- what a row still has to take is no more than there can be
  pub few_left : (w : World T) (good : Good defers (LAST_SLOT + 1) size w) → length (good.state.left j) ≤ MOST
  few_left w good =
      list_below (good.state.left j) MOST
      (λ c. once (good.state.life c) (good.inv.places.to_take j c))
      (λ c p. good.stocked.few c (good.shows.lists.lived c ∙ living (good.state.life c) (good.inv.places.to_take j c) p))
    where
      once : {k : ℕ} (l : Life) → k ≡ is_doomed j l → k ≤ 1
      once l e = grind (arith, e)

      living : {k : ℕ} (l : Life) → k ≡ is_doomed j l → 0 < k → lives l ≡ true
      living l e p = grind (arith, e, p)

  -- what is left of it, in a world
  abbrev left_of : (w : World T) → Reached defers size w → Settle → ℕ
  left_of w r d = weight MOST j r.good.state + point d.stands

  -- the row goes on counting, and has less left
  record Less (c : Leave) (d : Settle) (was : ℕ) (v : World T) : Type 0 where
    pub reached : Reached defers size v
    pub row : v.row j ≡ as_row (AsItLeaves c) d
    pub counts : OnlyCounts d
    pub falls : left_of v reached d < was

  own_step : (w v : World T) (r : Reached defers size w) (c : Leave) (d : Settle) → w.row j ≡ as_row (AsItLeaves c) d → OnlyCounts d → (d.stands ≡ at.Over → ⊥)
      → ArePlain defers w → Steps' defers j (w.row j) w v → (d2 : Settle) × Less c d2 (left_of w r d) v
  own_step w v r c d is counts ne plain step =
      let o = row_step defers size j w v r d ne step (AsItLeaves c) is in
      let less = step_less defers
      (LAST_SLOT + 1) MOST j w.memory v.memory r.good.state r.good.extra d o.end o.reached.good.state o.reached.good.extra r.good.shows o.reached.good.shows
      (few_left v o.reached.good) plain counts (form_fits defers size j (AsItLeaves c) o.end.0 v o.reached.good o.row) d.stands counts.counting ne
      (form_fits defers size j (AsItLeaves c) d w r.good is) o.told o.steps in
      (o.end.0, record { reached = o.reached; row = o.row; counts = less.still; falls = less.falls })

  -- what the others leave
  record Meant (w v : World T) (r : Reached defers size w) (row : Row) : Type 0 where
    pub reached : Reached defers size v
    pub row_is : v.row j ≡ row
    pub plain : ArePlain defers v
    pub long : length (reached.good.state.loose j) ≡ length (r.good.state.loose j)
    pub left : length (reached.good.state.left j) ≡ length (r.good.state.left j)

  module _ (c : Leave) (d : Settle) where
    meanwhile : (events : List (Event T)) (w v : World T) (r : Reached defers size w) → w.row j ≡ as_row (AsItLeaves c) d → ArePlain defers w
        → Meanwhile defers (ArePlain defers) size j events w v → Meant w v r (as_row (AsItLeaves c) d)
    meanwhile [] w v r is plain h =
        subst (λ (x : World T). Meant w x r (as_row (AsItLeaves c) d)) (sym h) (record { reached = r; row_is = is; plain = plain; long = refl; left = refl })
    meanwhile (e ∷ events) w v r is plain h =
        let a = after_event defers size j (as_row (AsItLeaves c) d) d (form_fits defers size j (AsItLeaves c) d) w h.0 r is e h.1 h.2 in
        let b = meanwhile events h.0 v a.reached a.row_is h.3 h.4 in
        record { reached = b.reached; row_is = b.row_is; plain = b.plain; long = b.long ∙ a.hand.loose; left = b.left ∙ ap (length) a.hand.left }

  -- a settling that has nothing left, and only counts, is over
  none_left : (p : Settling) → IsCounting p → point p ≡ 0 → p ≡ at.Over
  none_left at.Over is e = refl
  none_left at.Lists is e = absurd (omega (arith, e))
  none_left (at.Owns next) is e = absurd (omega (arith, e))
  none_left (at.Downs next batch) is e = absurd (omega (arith, e))
  none_left at.Nexts is e = absurd (omega (arith, e))
  none_left (at.Takes next) is e = absurd (omega (arith, e))
  none_left _ is e = absurd is

  has_counted : (w : World T) (c : Leave) (d : Settle) → w.row j ≡ as_row (AsItLeaves c) d → d.stands ≡ at.Over → HasCounted (w.row j)
  has_counted w c d is over = subst HasCounted (sym is) over

  -- within so many steps, in every world in which no more is left
  abbrev AllWithin : ℕ → Type 0
  AllWithin k =
      (w : World T) (r : Reached defers size w) (c : Leave) (d : Settle) → w.row j ≡ as_row (AsItLeaves c) d → OnlyCounts d → ArePlain defers w → left_of w r d ≤ k
      → CountsWithin defers size j k w

  one_more : (k : ℕ) → AllWithin k → AllWithin (suc k)
  one_more k all w r c d is counts plain le = by (is_over d.stands) refl
    where
      over_is : is_over d.stands ≡ true → d.stands ≡ at.Over
      over_is e = grind arith

      on : is_over d.stands ≡ false → (events : List (Event T)) (v n : World T) → Meanwhile defers (ArePlain defers) size j events w v → Steps' defers j (v.row j) v n
          → CountsWithin defers size j k n
      on go events v n h step =
          let a = meanwhile c d events w v r is plain h in
          let ne : d.stands ≡ at.Over → ⊥ = (λ e. absurd (cc (go, ap is_over e))) in
          let o = own_step v n a.reached c d a.row_is counts ne a.plain step in
          let falls = o.1.falls in
          let loose = ap (each (3 * MOST + 4)) a.long in
          let left = a.left in
          all n o.1.reached c o.0 o.1.row o.1.counts (plain_kept defers size v n a.reached j step a.plain) (omega (arith, le, falls, loose, left))

      by : (t : Bool) → is_over d.stands ≡ t → CountsWithin defers size j (suc k) w
      by true e = inl (has_counted w c d is (over_is e))
      by false e = inr (on e)

  pub counts_within : (k : ℕ) → AllWithin k
  counts_within zero w r c d is counts plain le = has_counted w c d is (none_left d.stands counts.counting (omega (arith, le)))
  counts_within (suc k) w r c d is counts plain le = one_more k (counts_within k) w r c d is counts plain le

module _ {T : Type 0} (defers : T → Option ℕ) where
  pub start_reached : (size roots : ℕ) → Reached defers size (at_start defers roots)
  start_reached size roots = record { good = start_good defers (LAST_SLOT + 1) size roots; sized = λ i. tt }

  -- a list that was just taken only has to be counted
  pub counting_only : (slot size head : ℕ) → OnlyCounts (counting_down slot size head)
  counting_only slot size head = record { counting = tt; pending = refl; flushing = refl; held = refl; put = refl }

  pub lists_are_counted : ListsAreCounted defers
  lists_are_counted size roots events w runs plain j head c is =
      let d = counting_down c.slot c.batch_size head in
      let r = runs_reached defers size events (at_start defers roots) w (start_reached size roots) runs in
      let k = left_of defers size j w r d in
      (k, counts_within defers size j k w r c d is (counting_only c.slot c.batch_size head) plain (le k))
    where
      le : (k : ℕ) → k ≤ k
      le k = omega arith
