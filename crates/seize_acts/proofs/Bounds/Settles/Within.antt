-- A row that settles has done so within a number of its own steps, whatever lists values keep and whatever the others do, as long as nobody else settles there.
use Rattle.std.specs.Prelude.{Option}
use Rattle.std.proofs.Common.{◌≡◌, ℕ, zero, suc, ◌+◌, ◌<◌, ◌≤◌, Bool, true, false, List, [], ◌∷◌, length, inl, inr, refl, arith, ap, sym, subst, ◌∙◌, ◌⊎◌}
use Rattle.std.proofs.lemmas.Bool.{cases_eq}
use Rattle.seize_words.specs.declared.at.At.TheVariants.{Slot}
use Rattle.seize.specs.declared.states.TheConstants.{BATCH, HELD, LAST_SLOT}
use Rattle.seize.specs.declared.rows.settle.Settle.{Settle}
use Rattle.seize.specs.declared.rows.settle.Settling.{Settling}
use Rattle.seize.specs.declared.rows.settle.Settling.TheVariants as at
use Rattle.seize.specs.declared.rows.leave.Leaving.{Leaving}
use Rattle.seize.specs.declared.rows.leave.Leaving.TheVariants as leaving
use Rattle.seize.specs.Settle.{counting_down}
use Rattle.seize.specs.World.{World, Row, Rests, Registers, Enters, Settles, Leaves, Defers, Frees, Event, Step, Steps', at_start}
use Rattle.seize_model.specs.Given.SeizeWaitingHeld.{count}
use Rattle.seize_model.proofs.Given.SeizeMovesState.Ghost.{State, Life, is_pending}
use Rattle.seize_model.proofs.Given.SeizeMemoryWords.Named.{words_of, link}
use Rattle.seize_model.proofs.Given.SeizeMemoryWords.Chains.{last_of}
use Rattle.seize_model.proofs.Given.SeizeMemoryWords.Shows.{lives}
use Rattle.seize_model.proofs.Given.SeizeMemoryWords.Sums.{list_below}
use Rattle.seize_model.proofs.Given.SeizeMemoryWords.View.{view}
use Rattle.seize_model.proofs.Given.SeizeRulePoints.Known.{Fits}
use Rattle.seize_model.proofs.Given.SeizeRulePoints.Settle.{is_over}
use Rattle.seize_model.proofs.Given.SeizeRuleRows.Others.{steps_others}
use Rattle.seize_model.proofs.Given.SeizeRuleWorld.Good.{Good}
use Rattle.seize_model.proofs.Given.SeizeRuleWorld.Start.{start_good}
use Rattle.seize_model.proofs.Alone.Histories.Reached.{Reached, runs_reached}
use Rattle.seize_model.specs.Ends.Holders.{has_batch}
use Rattle.seize_model.proofs.Ends.Batches.Rows.{HeldByRows, has_on, happens_held, runs_held, start_held}
use Rattle.seize_acts.specs.Acts.Waits.{SettlesOn}
use Rattle.seize_acts.specs.Bounds.Bounds.{HasTried, HasCounted, IsToTry, IsAloneOnSlot, Meanwhile, Within, BatchesAreTried, ListsAreSettled}
use Rattle.seize_acts.proofs.Bounds.Bounds.Hands.{after_event}
use Rattle.seize_acts.proofs.Bounds.Bounds.Knows.{Known, known_at, is_popped, popped_word}
use Rattle.seize_acts.proofs.Bounds.Bounds.Machine.{MOST}
use Rattle.seize_acts.proofs.Bounds.Bounds.Opened.{WorksThere, works_there}
use Rattle.seize_acts.proofs.Bounds.Bounds.Rows.{Form, Only, AsItLeaves, as_row, form_fits, own_step as row_step}
use Rattle.seize_acts.proofs.Bounds.Bounds.Within.{few_left, start_reached}
use Rattle.seize_acts.proofs.Bounds.Settles.Carried.{owes}
use Rattle.seize_acts.proofs.Bounds.Settles.Each.{step_less}
use Rattle.seize_acts.proofs.Bounds.Settles.Measure.{SeenAt, HasSeen, here}
use Rattle.seize_acts.proofs.Bounds.Settles.Others.{left_of, still_left}
use Rattle.seize_acts.proofs.Bounds.Settles.Reclaims.{put_once}
use Rattle.seize_acts.proofs.Bounds.Settles.Step.{Stepping}
use Rattle.seize_model.proofs.Given.SeizeRulePoints.Told.{part}
use Rattle.seize_model.proofs.Given.SeizeRuleRows.Leave.{over_is}

-- a row that has a batch in hand settles on its slot
batch_on : (n s : ℕ) (row : Row) → WorksThere n row → has_batch s row ≡ true → SettlesOn s row
batch_on n s (Settles c) works has = sym (has_on s c has).0
batch_on n s (Leaves c) works has = by c.stands refl has
  where
    by : (p : Leaving) → c.stands ≡ p → has_batch s (Leaves (record c { stands = p })) ≡ true → c.slot ≡ s
    by (leaving.Settles settle) e h = sym (works settle e).0 ∙ sym (has_on s settle h).0
    by leaving.Swaps e h = absurd (cc h)
    by leaving.Frees e h = absurd (cc h)
    by leaving.Over e h = absurd (cc h)
batch_on n s Rests works has = absurd (cc has)
batch_on n s (Registers c) works has = absurd (cc has)
batch_on n s (Enters c) works has = absurd (cc has)
batch_on n s (Defers t c) works has = absurd (cc has)
batch_on n s (Frees c) works has = absurd (cc has)

-- what was seen of a batch stays so while the batch does
seen_kept : (m m2 : State) (d : Settle) → m2.blocks (m2.open_batch d.slot) ≡ m.blocks (m.open_batch d.slot) → (p : Settling) → SeenAt m d p → SeenAt m2 d p
seen_kept m m2 d same at.Holds seen = seen ∙ ap (λ (l : List ℕ). link (last_of l)) (sym same)
seen_kept m m2 d same _ seen = tt

-- a row that settles does so on the slot of its settling

own_slot : (n : ℕ) (g : Form) (d : Settle) (row : Row) → row ≡ as_row g d → WorksThere n row → SettlesOn d.slot row
own_slot n Only d row is works = subst (λ (r : Row). SettlesOn d.slot r) (sym is) refl
own_slot n (AsItLeaves c) d row is works = subst (λ (r : Row). SettlesOn d.slot r) (sym is) (sym ((subst (WorksThere n) is works) d refl).0)

slot_of : (n s : ℕ) (g : Form) (d : Settle) (row : Row) → row ≡ as_row g d → WorksThere n row → SettlesOn s row → d.slot ≡ s
slot_of n s Only d row is works on = subst (SettlesOn s) is on
slot_of n s (AsItLeaves c) d row is works on = ((subst (WorksThere n) is works) d refl).0 ∙ subst (SettlesOn s) is on

has_held : (s : ℕ) (g : Form) (d : Settle) → has_batch s (as_row g d) ≡ true → d.held ≡ true
has_held s Only d has = (has_on s d has).1
has_held s (AsItLeaves c) d has = (has_on s d has).1

-- what a batch puts is no more than there can be
few_puts : {T : Type 0} (defers : T → Option ℕ) (size j : ℕ) (w : World T) (good : Good defers (LAST_SLOT + 1) size w) → length (good.state.puts j) ≤ MOST
few_puts defers size j w good =
    list_below (good.state.puts j) MOST
    (λ c. put_once j (good.state.life c) (count c (good.state.pending j)) (count c (good.state.puts j)) (good.inv.places.to_retire j c))
    (λ c p. good.stocked.few c (good.shows.lists.lived c
    ∙ living (good.state.life c) (count c (good.state.pending j)) (count c (good.state.puts j)) (good.inv.places.to_retire j c) p))
  where
    living : (l : Life) (a b : ℕ) → a + b ≡ is_pending j l → 0 < b → lives l ≡ true
    living l a b e p = grind (arith, e, p)

module _ {T : Type 0} (defers : T → Option ℕ) (size j : ℕ) (g : Form) where
  -- what holds of a world in which the row works
  pub record Works (w : World T) (d : Settle) : Type 0 where
    pub reached : Reached defers size w
    pub held : HeldByRows w
    pub alone : IsAloneOnSlot j w
    pub row : w.row j ≡ as_row g d
    pub seen : HasSeen reached.good.state d

  abbrev left_in : (w : World T) (d : Settle) → Works w d → ℕ
  left_in w d k = left_of defers size j w k.reached d

  module _ (w : World T) (d : Settle) (k : Works w d) where
    fits : Fits (LAST_SLOT + 1) j (view defers w.memory) k.reached.good.state k.reached.good.extra d
    fits = form_fits defers size j g d w k.reached.good k.row

    known : Known (LAST_SLOT + 1) j k.reached.good.state k.reached.good.extra d (is_popped d.stands) (popped_word d.stands)
    known = known_at (LAST_SLOT + 1) j (view defers w.memory) k.reached.good.state k.reached.good.extra d d.stands fits

    on_own : SettlesOn d.slot (w.row j)
    on_own = own_slot (LAST_SLOT + 1) g d (w.row j) k.row (works_there defers size w k.reached.good j)

    -- nobody holds its batch but itself
    free : d.held ≡ false → words_of w.memory (Slot d.slot BATCH) ≡ HELD → ⊥
    free none h = by (k.held d.slot h).0 (k.held d.slot h).1 (cases_eq (k.held d.slot h).0 j)
      where
        by : (i : ℕ) → has_batch d.slot (w.row i) ≡ true → (i ≡ j) ⊎ (i ≡ j → ⊥) → ⊥
        by i has (inl same) =
            let p = has_held d.slot g d (subst (λ (r : Row). has_batch d.slot r ≡ true) (ap w.row same ∙ k.row) has) in cc (p, none)
        by i has (inr ne) =
            k.alone i d.slot ne on_own (batch_on (LAST_SLOT + 1) d.slot (w.row i) (works_there defers size w k.reached.good i) has)

    -- it goes on, and has less left
    pub record Less (v : World T) : Type 0 where
      pub now : Settle
      pub works : Works v now
      pub falls : left_in v now works < left_in w d k

    own_step : (v : World T) → (d.stands ≡ at.Over → ⊥) → Steps' defers j (w.row j) w v → Less v
    own_step v ne step =
        let r = k.reached in
        let o = row_step defers size j w v r d ne step g k.row in
        let s : Stepping defers j w.memory v.memory r.good.state r.good.extra d o.end o.reached.good.state o.reached.good.extra = record {
          inv = r.good.inv;
          shows = r.good.shows;
          shows2 = o.reached.good.shows;
          few_left = few_left defers size j v o.reached.good;
          few_puts = few_puts defers size j v o.reached.good;
          there = known.common.slot_lt;
          free = free;
          fits2 = form_fits defers size j g o.end.0 v o.reached.good o.row;
        } in
        let a = step_less s d.stands ne k.seen fits o.told o.steps in
        record {
          now = o.end.0;
          works = record {
            reached = o.reached;
            held = happens_held defers size (Step j) w v r.good step k.held;
            alone = λ i t apart mine its.
                k.alone i t apart
                (subst (λ (y : ℕ). SettlesOn y (w.row j))
                (sym o.slot ∙ slot_of (LAST_SLOT + 1) t g o.end.0 (v.row j) o.row (works_there defers size v o.reached.good j) mine) on_own)
                (subst (λ (y : Row). SettlesOn t y) (steps_others defers size w v j i apart (w.row j) step) its);
            row = o.row;
            seen = a.seen;
          };
          falls = subst (λ (t : ℕ). owes j t (part o.end.0) o.reached.good.state + here (o.reached.good.state.puts j) o.end.0 < left_in w d k) (sym o.slot) a.falls;
        }

  -- what the others leave
  record Meant (w v : World T) (d : Settle) (was : ℕ) : Type 0 where
    pub works : Works v d
    pub same : left_in v d works ≡ was

  meanwhile : (events : List (Event T)) (w v : World T) (d : Settle) (k : Works w d) → Meanwhile defers (IsAloneOnSlot j) size j events w v
      → Meant w v d (left_in w d k)
  meanwhile [] w v d k h =
      subst (λ (x : World T). Meant w x d (left_in w d k)) (sym h) (record { works = k; same = refl })
  meanwhile (e ∷ events) w v d k h =
      let lt = (known w d k).common.slot_lt in
      let a = after_event defers size j (as_row g d) d (form_fits defers size j g d) w h.0 k.reached k.row e h.1 h.2 in
      let opened = a.opened d.slot lt (λ i ne on. k.alone i d.slot ne (on_own w d k) on) in
      let works : Works h.0 d = record {
        reached = a.reached;
        held = happens_held defers size e w h.0 k.reached.good h.2 k.held;
        alone = h.3;
        row = a.row_is;
        seen = seen_kept k.reached.good.state a.reached.good.state d opened d.stands k.seen;
      } in
      let b = meanwhile events h.0 v d works h.4 in
      record { works = b.works; same = b.same ∙ still_left defers size j w h.0 k.reached a.reached e h.2 d lt a.hand opened }

  module _ (done : Row → Type 0) (over : (d : Settle) → d.stands ≡ at.Over → done (as_row g d)) where
    -- within so many steps, in every world in which less is left
    abbrev AllWithin : ℕ → Type 0
    AllWithin n = (w : World T) (d : Settle) (k : Works w d) → left_in w d k < n → Within defers (IsAloneOnSlot j) done size j n w

    one_more : (n : ℕ) → AllWithin n → AllWithin (suc n)
    one_more n all w d k le = by (is_over d.stands) refl
      where
        on : is_over d.stands ≡ false → (events : List (Event T)) (v x : World T) → Meanwhile defers (IsAloneOnSlot j) size j events w v
            → Steps' defers j (v.row j) v x → Within defers (IsAloneOnSlot j) done size j n x
        on go events v x h step =
            let a = meanwhile events w v d k h in
            let ne : d.stands ≡ at.Over → ⊥ = (λ e. absurd (cc (go, ap is_over e))) in
            let o = own_step v d a.works x ne step in
            let falls = o.falls in
            let same = a.same in
            all x o.now o.works (less (left_in x o.now o.works) (left_in v d a.works) (left_in w d k) falls same le)
          where
            less : (u v w : ℕ) → u < v → v ≡ w → w < suc n → u < n
            less u v w f s l = omega (arith, f, s, l)

        by : (t : Bool) → is_over d.stands ≡ t → Within defers (IsAloneOnSlot j) done size j (suc n) w
        by true e = inl (subst done (sym k.row) (over d (over_is d.stands e)))
        by false e = inr (on e)

    settles_within : (n : ℕ) → AllWithin n
    settles_within zero w d k le = absurd (none (left_in w d k) le)
      where
        none : (u : ℕ) → u < 0 → ⊥
        none u l = omega (arith, l)
    settles_within (suc n) w d k le = one_more n (settles_within n) w d k le

    pub settled_within : (w : World T) (r : Reached defers size w) → HeldByRows w → IsAloneOnSlot j w → (d : Settle) → w.row j ≡ as_row g d
        → HasSeen r.good.state d → (k : ℕ) × Within defers (IsAloneOnSlot j) done size j k w
    settled_within w r held alone d is seen =
        let works : Works w d = record { reached = r; held = held; alone = alone; row = is; seen = seen } in
        (suc (left_in w d works), settles_within (suc (left_in w d works)) w d works (lt (left_in w d works)))
      where
        lt : (n : ℕ) → n < suc n
        lt n = omega arith

-- a row that has just begun has seen nothing
begins : (size : ℕ) (c : Settle) → IsToTry size c → c.stands ≡ at.Sees
begins size c (inl is) = ap (λ (d : Settle). d.stands) is.2
begins size c (inr is) = ap (λ (d : Settle). d.stands) is.1

module _ {T : Type 0} (defers : T → Option ℕ) where
  pub batches_are_tried : BatchesAreTried defers
  batches_are_tried size roots events w runs j c alone to is =
      let start = start_good defers (LAST_SLOT + 1) size roots in
      let r = runs_reached defers size events (at_start defers roots) w (start_reached defers size roots) runs in
      settled_within defers size j Only HasTried (λ d e. e) w r
      (runs_held defers size events (at_start defers roots) w start (λ i. tt) runs (start_held defers size roots)) alone c is
      (subst (λ (p : Settling). SeenAt r.good.state c p) (sym (begins size c to)) tt)

  pub lists_are_settled : ListsAreSettled defers
  lists_are_settled size roots events w runs j head c alone is =
      let start = start_good defers (LAST_SLOT + 1) size roots in
      let r = runs_reached defers size events (at_start defers roots) w (start_reached defers size roots) runs in
      settled_within defers size j (AsItLeaves c) HasCounted (λ d e. e) w r
      (runs_held defers size events (at_start defers roots) w start (λ i. tt) runs (start_held defers size roots)) alone
      (counting_down c.slot c.batch_size head) is tt
