-- What happens as one caller acts: users' events one after another, or a step of its row, which may have begun just then. What it leaves to the others.
use Rattle.std.specs.Prelude.{◌≢◌, Option, IsSome, length}
use Rattle.std.proofs.Common.{◌≡◌, ℕ, ◌+◌, List, [], ◌∷◌, ◌⊎◌, inl, inr, refl, sym, subst, ap, ◌∙◌}
use Rattle.std.proofs.lemmas.Bool.{cases_eq}
use Rattle.seize_words.specs.OneMemory.Mem.{Mem, value_at}
use Rattle.seize_words.specs.OneMemory.Word.{link_to}
use Rattle.seize.specs.declared.states.TheConstants.{LAST_SLOT}
use Rattle.seize.specs.declared.rows.settle.Settle.{Settle}
use Rattle.seize.specs.declared.rows.settle.Settled.{Settled}
use Rattle.seize.specs.declared.rows.settle.Settled.TheVariants.{Goes, Waits, Gave, Done}
use Rattle.seize.specs.Sequence.{IsUsers}
use Rattle.seize.specs.Settle.{retiring}
use Rattle.seize.specs.World.{World, Row, Settles, Handed, Event, Begin, Step, Makes, Drops, Links, Parts, Unlinks, Rewrites, Operates, Ends, LeavesOver, Relinks, Clears, Chooses, Request, Retire, Defer', Happens, Runs, IsInside, Steps', settles_on}
use Rattle.seize_model.proofs.Given.SeizeRulePoints.Settle.{settle_steps, is_over}
use Rattle.seize_model.proofs.Given.SeizeRulePoints.Stepped.{IsGoing}
use Rattle.seize_model.proofs.Given.SeizeRuleRows.Known.{FitsRow}
use Rattle.seize_model.proofs.Given.SeizeRuleRows.Others.{with_here}
use Rattle.seize_model.proofs.Given.SeizeMemoryWords.View.{view}
use Rattle.seize_model.proofs.Given.SeizeRuleWorld.Start.{words_good}
use Rattle.seize_model.proofs.Alone.Histories.Reached.{Reached, happens_reached}
use Rattle.seize_acts.specs.Acts.Waits.{SettlesOn}
use Rattle.seize_acts.specs.Bounds.Bounds.{IsOfOthers, IsAloneOnSlot, Meanwhile}
use Rattle.seize_acts.proofs.Bounds.Bounds.Passing.{event_row}
use Rattle.seize_views.proofs.Views.Steps.{step_keeps}
use Rattle.seize_views.proofs.Views.Handed.{users_keep}
use Rattle.threads_rule.proofs.Views.Quiet.{HandsOne, Stayed, users_stay, row_stays}
use Rattle.seize_model.proofs.Alone.Histories.UsersTurn.{AreUsers as AllOfUsers}

-- what users do is nobody's row
user_of_others : {T : Type 0} (j : ℕ) (e : Event T) → IsUsers e → IsOfOthers j e
user_of_others j (Begin i request) is = absurd is
user_of_others j (Step i) is = absurd is
user_of_others j (Ends i o) is = absurd is
user_of_others j (LeavesOver i c further) is = absurd is
user_of_others j (Relinks i c word) is = absurd is
user_of_others j (Clears i c) is = absurd is
user_of_others j (Makes i value words) is = tt
user_of_others j (Drops i c) is = tt
user_of_others j (Links i c o) is = tt
user_of_others j (Parts i c) is = tt
user_of_others j (Unlinks i c) is = tt
user_of_others j (Rewrites i c value) is = tt
user_of_others j (Operates op) is = tt
user_of_others j (Chooses choice) is = tt

-- what is the collector's has its value as long as it is there
abbrev pub Keeps : {T : Type 0} → World T → World T → Type 0
Keeps w v = (b : ℕ) → w.hand b ≡ Handed → IsSome (value_at w.memory b) → IsSome (value_at v.memory b) → value_at v.memory b ≡ value_at w.memory b

module _ {T : Type 0} (defers : T → Option ℕ) (size : ℕ) where
  -- a row has taken a step, or has begun with a block and taken its first one
  abbrev pub Stepped : ℕ → World T → World T → Type 0
  Stepped i w v =
      Happens defers size (Step i) w v
      ⊎ ((request : Request) × (begun : World T) × HandsOne defers size request × Happens defers size (Begin i request) w begun × Happens defers size (Step i) begun v)

  abbrev pub Ran : ℕ → World T → World T → Type 0
  Ran i w v = ((events : List (Event T)) × AllOfUsers events × Runs defers size events w v) ⊎ Stepped i w v

  module _ (i : ℕ) (w v : World T) (r : Reached defers size w) where
    pub ran_stays : Ran i w v → (t : ℕ) → IsInside (w.uses t) → Stayed defers size w v t
    ran_stays (inl (events, users, runs)) t inside = users_stay defers size events w v r users runs t
    ran_stays (inr step) t inside = row_stays defers size w v i r step t inside

    begun_memory : (request : Request) (x : World T) → HandsOne defers size request → Happens defers size (Begin i request) w x → x.memory ≡ w.memory
    begun_memory (Retire s b) x is h = ap (λ (u : World T). u.memory) h.1.2
    begun_memory (Defer' s b t) x is h = ap (λ (u : World T). u.memory) h.1.7
    begun_memory _ x is h = absurd is

    pub ran_keeps : Ran i w v → Keeps w v
    ran_keeps (inl (events, users, runs)) b its there some = users_keep defers size events w v r users runs b its there
    ran_keeps (inr (inl step)) b its there some = step_keeps defers size w v i r step b some
    ran_keeps (inr (inr (request, begun, hands, first, after))) b its there some =
        step_keeps defers size begun v i (happens_reached defers size (Begin i request) w begun r first) after b some
        ∙ ap (λ (m : Mem T). value_at m b) (begun_memory request begun hands first)

  -- where the rows are as they were nobody else settles on the slot, either
  alone_on : (c : ℕ) (w v : World T) → ((k : ℕ) → v.row k ≡ w.row k) → IsAloneOnSlot c w → IsAloneOnSlot c v
  alone_on c w v same alone j s ne mine its =
      alone j s ne (subst (λ (x : Row). SettlesOn s x) (same c) mine) (subst (λ (x : Row). SettlesOn s x) (same j) its)

  pub users_pass : (events : List (Event T)) (w v : World T) → AllOfUsers events → Runs defers size events w v → (c : ℕ) → IsAloneOnSlot c w
      → Meanwhile defers (IsAloneOnSlot c) size c events w v
  users_pass [] w v is h c alone = h
  users_pass (e ∷ events) w v is h c alone =
      let next = alone_on c w h.0 (λ k. event_row defers size k e w h.0 (user_of_others k e is.0) h.1) alone in
      (h.0, user_of_others c e is.0, h.1, next, users_pass events h.0 v is.1 h.2 c next)

  -- nor is anybody else's row touched by these events
  abbrev pub AreNoRows : List (Event T) → Type 0
  AreNoRows [] = Unit {0}
  AreNoRows (e ∷ events) = ((j : ℕ) → IsOfOthers j e) × AreNoRows events

  pub no_rows_pass : (events : List (Event T)) (w v : World T) → AreNoRows events → Runs defers size events w v → (c : ℕ) → IsAloneOnSlot c w
      → Meanwhile defers (IsAloneOnSlot c) size c events w v
  no_rows_pass [] w v is h c alone = h
  no_rows_pass (e ∷ events) w v is h c alone =
      let next = alone_on c w h.0 (λ k. event_row defers size k e w h.0 (is.0 k) h.1) alone in (h.0, is.0 c, h.1, next, no_rows_pass events h.0 v is.1 h.2 c next)

  -- a row that retires a block settles on its slot after its first step, too
  module _ (i s b : ℕ) (w v : World T) (r : Reached defers size w) where
    first_step : (c : Settle) → c ≡ retiring s size (link_to b) → w.row i ≡ Settles c → Steps' defers i (Settles c) w v → SettlesOn s (v.row i)
    first_step c is row (m, end, steps, to) =
        let went =
        settle_steps defers (LAST_SLOT + 1) i w.memory m r.good.state r.good.extra c end refl (words_good defers (LAST_SLOT + 1) w r.good) r.good.inv r.good.shows c.stands refl
        (ap (λ (d : Settle). is_over d.stands) is)
        (subst (λ (x : Row). FitsRow (LAST_SLOT + 1) i (view defers w.memory) r.good.state r.good.extra (length w.memory.slots) x) row (r.good.rows i)) steps in
        subst (λ (x : World T). SettlesOn s (x.row i)) (sym to) (by end.0 end.1 went.1 (went.0.slot_is ∙ ap (λ (d : Settle). d.slot) is))
      where
        by : (d : Settle) (told : Settled T) → IsGoing told → d.slot ≡ s → SettlesOn s ((settles_on w i c m (d, told)).row i)
        by d Goes going on = subst (λ (x : Row). SettlesOn s x) (sym (with_here w.row i (Settles d))) on
        by d Waits going on = subst (λ (x : Row). SettlesOn s x) (sym (with_here w.row i (Settles d))) on
        by d (Gave value) going on = subst (λ (x : Row). SettlesOn s x) (sym (with_here w.row i (Settles d))) on
        by d Done going on = absurd going

  abbrev pub Passes : World T → World T → ℕ → Type 0
  Passes w v c = IsAloneOnSlot c w → IsAloneOnSlot c v → (events : List (Event T)) × Meanwhile defers (IsAloneOnSlot c) size c events w v

  -- For each other caller it has passed meanwhile.
  module _ (i c : ℕ) (ne : i ≢ c) (w v : World T) (r : Reached defers size w) where
    -- the world in which a row has just begun
    between : (request : Request) (x : World T) → HandsOne defers size request → Happens defers size (Begin i request) w x → Happens defers size (Step i) x v
        → IsAloneOnSlot c w → IsAloneOnSlot c v → IsAloneOnSlot c x
    between request x hands first after was now j s other mine its = by (cases_eq j i)
      where
        r2 : Reached defers size x
        r2 = happens_reached defers size (Begin i request) w x r first

        here : x.row c ≡ w.row c
        here = event_row defers size c (Begin i request) w x ne first

        then_ : v.row c ≡ x.row c
        then_ = event_row defers size c (Step i) x v ne after

        of_row : (q : Request) → HandsOne defers size q → Happens defers size (Begin i q) w x → SettlesOn s (x.row i) → ⊥
        of_row (Retire t b) is h on =
            let row : x.row i ≡ Settles (retiring t size (link_to b)) = ap (λ (u : World T). u.row i) h.1.2 ∙ with_here w.row i (Settles (retiring t size (link_to b))) in
            let same : t ≡ s = subst (λ (y : Row). SettlesOn s y) row on in
            let step = first_step i t b x v r2 (retiring t size (link_to b)) refl row (subst (λ (y : Row). Steps' defers i y x v) row after) in
            now i s ne (subst (λ (y : Row). SettlesOn s y) (sym then_) mine) (subst (λ (n : ℕ). SettlesOn n (v.row i)) same step)
        of_row (Defer' t b d) is h on =
            subst (λ (y : Row). SettlesOn s y) (ap (λ (u : World T). u.row i) h.1.7 ∙ with_here w.row i _) on
        of_row _ is h on = absurd is

        by : (j ≡ i) ⊎ (j ≢ i) → ⊥
        by (inl e) = of_row request hands first (subst (λ (k : ℕ). SettlesOn s (x.row k)) e its)
        by (inr away) =
            was j s other (subst (λ (y : Row). SettlesOn s y) here mine)
            (subst (λ (y : Row). SettlesOn s y) (event_row defers size j (Begin i request) w x (λ e. away (sym e)) first) its)

    pub ran_passes : Ran i w v → Passes w v c
    ran_passes (inl (events, users, runs)) was now = (events, users_pass events w v users runs c was)
    ran_passes (inr (inl step)) was now = (Step i ∷ [], (v, ne, step, now, refl))
    ran_passes (inr (inr (request, begun, hands, first, after))) was now =
        (Begin i request ∷ Step i ∷ [], (begun, ne, first, between request begun hands first after was now, (v, ne, after, now, refl)))
