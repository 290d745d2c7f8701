-- What the whole calls of reclaiming all come to in the waiting sets.
use Rattle.std.specs.Prelude.{Option, Some, None, if◌then◌else◌}
use Rattle.std.proofs.Common.{◌≡◌, ℕ, zero, suc, ◌+◌, ◌<◌, ◌≤◌, ◌^◌, Bool, true, false, cond, eqb, List, [], ◌∷◌, ◌++◌, length, inl, inr, refl, arith, subst, sym, ap, ◌∙◌, eqb-true, append_assoc}
use Rattle.std.proofs.lemmas.Bool.{cases_lt}
use Rattle.std.proofs.lemmas.List.{append-nil}
use Rattle.seize.specs.Given.SeizeWordsDeclared.at.At.TheVariants as name
use Rattle.seize.specs.Given.SeizeWordsMem.{word_at}
use Rattle.seize.specs.declared.states.TheConstants.{HEAD, BATCH, LAST_SLOT}
use Rattle.seize.specs.Settle.{flushing}
use Rattle.seize.specs.Sequence.{Turn, Whole, Calls, TakesTurns, taken_in, changes}
use Rattle.seize.specs.WaitingSets.{Change, Leaves as LeavesSet, Flushes, Sets, After, quietly, then_also, changed, all_changed, left, flushed, all_left, emptied}
use Rattle.seize.specs.World.{World, Use, Vacant, Outside, Inside, Changing, Request, Register', Leave', Flush, Unregister', SlotsTaken}
use Rattle.seize_rule.specs.Given.SeizeWaitingHeld.{count}
use Rattle.seize_rule.proofs.Given.SeizeWaitingCounts.{count-append}
use Rattle.seize_model.specs.Sets.Reclaims.{Settles, AllSettle, FlushesAny, AllFlush, Rounds, AllGiveUp, Reclaims}
use Rattle.seize_rule.proofs.Given.SeizeMovesState.Ghost.{Head, Never, Free, Idle, Active, emptied as bare_head, is_active}
use Rattle.seize_rule.proofs.Given.SeizeMemoryWords.Named.{words_of, word_found, link}
use Rattle.seize_rule.proofs.Given.SeizeMemoryWords.View.{view}
use Rattle.seize_rule.proofs.Given.SeizeMemoryWords.Chains.{last_of}
use Rattle.seize_rule.proofs.Given.SeizeMovesSets.Shown.{ascending, ascending_same}
use Rattle.seize_rule.proofs.Rows.Teams.{UseFits}
use Rattle.seize_rule.proofs.Points.Retire.{none_open}
use Rattle.seize_model.proofs.Sets.Slots.Vacant.{new_slot_vacant}
use Rattle.seize_model.proofs.Sets.Slots.Registers.{use_taken}
use Rattle.seize_model.proofs.Sets.Slots.Least.{calls_registered, refused_changes, taken_changes}
use Rattle.seize_rule.proofs.World.Rested.{Rested}
use Rattle.seize_model.proofs.Sets.Turns.Heads.{head_word, vacant_by, no_team, none_past as none_taken}
use Rattle.seize_model.proofs.Sets.Slots.Kept.{leave_idles}
use Rattle.seize_model.proofs.Sets.Turns.Begins.{Shown}
use Rattle.seize_model.proofs.Sets.Turns.All.{calls_come}
use Rattle.seize_model.proofs.Sets.Turns.Append.{turns_append, changed_append}

abbrev pub is_inside : Use → Bool
is_inside Vacant = false
is_inside (Outside rows) = false
is_inside (Inside rows) = true
is_inside Changing = false

-- a slot is active exactly if it is used so
pub active_inside : (u : Use) (h : Head) (k : ℕ) (open_now : Bool) → k ≡ 0 → UseFits u (bare_head h) k open_now → is_active h ≡ is_inside u
active_inside Vacant Never k o none f = refl
active_inside Vacant Free k o none f = refl
active_inside Vacant Idle k o none f = refl
active_inside Vacant (Active es) k o none f = absurd f
active_inside (Outside j) Never k o none f = refl
active_inside (Outside j) Free k o none f = refl
active_inside (Outside j) Idle k o none f = refl
active_inside (Outside j) (Active es) k o none f = absurd (let e = f.0 in cc e)
active_inside (Inside j) Never k o none f = absurd (let e = f.0 in cc e)
active_inside (Inside j) Free k o none f = absurd (let e = f.0 in cc e)
active_inside (Inside j) Idle k o none f = absurd (let e = f.0 in cc e)
active_inside (Inside j) (Active es) k o none f = refl
active_inside Changing h k o none f = absurd (let e = f.1 in omega (arith, e, none))

-- none from there on passes the test
cut : (p : ℕ → Bool) (k n : ℕ) → k ≤ n → ((t : ℕ) → k ≤ t → p t ≡ false) → ascending p n ≡ ascending p k
cut p k zero le h = ap (ascending p) (let e : 0 ≡ k = omega (arith, le) in e)
cut p k (suc n) le h = elim (cases_lt n k) as (λ _. ascending p (suc n) ≡ ascending p k) [
  | inl l ↦ ap (ascending p) (let e : suc n ≡ k = omega (arith, l, le) in e)
  | inr l ↦
      ap (λ (b : Bool). ascending p n ++ cond b (n ∷ []) []) (h n l)
      ∙ append-nil (ascending p n) ∙ cut p k n l h
]

none_ascending : (p : ℕ → Bool) (k s : ℕ) → k ≤ s → count s (ascending p k) ≡ 0
none_ascending p zero s l = refl
none_ascending p (suc k) s l = at (p k) (none_ascending p k s (omega (arith, l)))
  where
    other : count s (k ∷ []) ≡ 0
    other = by (eqb s k) (eqb-true s k)
      where
        by : (b : Bool) → (b ≡ true → s ≡ k) → cond b 1 0 + 0 ≡ 0
        by true e = let a = e refl in absurd (omega (arith, l, a))
        by false e = refl

    at : (b : Bool) → count s (ascending p k) ≡ 0 → count s (ascending p k ++ cond b (k ∷ []) []) ≡ 0
    at true ih = let a = count-append s (ascending p k) (k ∷ []) in let b = other in omega (arith, a, b, ih)
    at false ih = let a = count-append s (ascending p k) [] in omega (arith, a, ih)

after_of : Sets → List ℕ → After
after_of s l = record { sets = s; reclaimed = l }

pub then_quiet : (a : After) → then_also a quietly ≡ a
unfolding after_of
then_quiet a = ap (after_of a.sets) (append-nil a.reclaimed)

module _ (size : ℕ) where
  pub left_more : (slots : List ℕ) (s : ℕ) (sets : Sets) → all_left size (slots ++ s ∷ []) sets ≡ then_also (all_left size slots sets) (left size s)
  unfolding after_of
  left_more [] s sets = ap (after_of (left size s sets).sets) (append-nil (left size s sets).reclaimed)
  left_more (t ∷ slots) s sets =
      let v = (left size t sets).sets in
      let rest = all_left size slots v in
      ap (λ (a : After). after_of a.sets ((left size t sets).reclaimed ++ a.reclaimed)) (left_more slots s v)
      ∙ ap (after_of (left size s rest.sets).sets) (sym (append_assoc (left size t sets).reclaimed rest.reclaimed (left size s rest.sets).reclaimed))

  one_change : (c : Change) (sets : Sets) → all_changed size (c ∷ []) sets ≡ changed size c sets
  unfolding after_of
  one_change c sets = ap (after_of (changed size c sets).sets) (append-nil (changed size c sets).reclaimed)

  -- a flush of an empty batch
  pub flush_quiet : (s : ℕ) (sets : Sets) → sets.open_batch s ≡ [] → flushed size s sets ≡ quietly sets
  flush_quiet s sets e = by (length (sets.open_batch s)) (ap length e)
    where
      by : (k : ℕ) → k ≡ 0 → flushed size s sets ≡ quietly sets
      by k z = let q : length (sets.open_batch s) ≡ 0 = ap length e in grind (arith, q)

  -- so many rounds over as many slots
  abbrev pub emptied_times : ℕ → ℕ → Sets → After
  emptied_times slots zero sets = quietly sets
  emptied_times slots (suc rounds) sets = then_also (emptied_times slots rounds sets) (emptied size slots)

no_batch : (h last : ℕ) → cond (eqb h 0) (link last) 1 ≡ 0 → 0 ≡ link last
no_batch h last e = by (eqb h 0) e
  where
    by : (b : Bool) → cond b (link last) 1 ≡ 0 → 0 ≡ link last
    by true k = sym k
    by false k = absurd (cc k)

module _ {T : Type 0} (defers : T → Option ℕ) (n size : ℕ) (last : n ≡ LAST_SLOT + 1) (word : size < 2 ^ 64) (i : ℕ) where
  -- Turns of this caller come to this in the waiting sets, in a world that shows them then.
  pub record Comes (w v : World T) (sets : Sets) (target : After) : Type 0 where
    pub shown : Shown defers n size v target.sets
    pub taken : taken_in v.log ≡ taken_in w.log ++ target.reclaimed
    pub turns : List (Turn T)
    pub made : List Change
    pub took : TakesTurns defers size turns w v made
    pub comes : all_changed size made sets ≡ target

  pub comes_as : (w v : World T) (sets : Sets) (a b : After) → a ≡ b → Comes w v sets a → Comes w v sets b
  comes_as w v sets a b e h = subst (λ (t : After). Comes w v sets t) e h

  comes_then : (w v u : World T) (sets : Sets) (a : After) (f : Sets → After) → Comes w v sets a → Comes v u a.sets (f a.sets) → Comes w u sets (then_also a f)
  unfolding after_of
  comes_then w v u sets a f h k = record {
    shown = k.shown;
    taken = k.taken ∙ ap (λ (l : List ℕ). l ++ (f a.sets).reclaimed) h.taken ∙ append_assoc (taken_in w.log) a.reclaimed (f a.sets).reclaimed;
    turns = h.turns ++ k.turns;
    made = h.made ++ k.made;
    took = turns_append defers size h.turns k.turns w v u h.made k.made h.took k.took;
    comes = changed_append size h.made k.made sets ∙ ap (λ (x : After). then_also x (all_changed size k.made)) h.comes
        ∙ ap (λ (x : After). after_of x.sets (a.reclaimed ++ x.reclaimed)) k.comes;
  }

  comes_quiet : (w v : World T) (sets : Sets) → v ≡ w → Shown defers n size w sets → Comes w v sets (quietly sets)
  comes_quiet w v sets e shown = record {
    shown = subst (λ (x : World T). Shown defers n size x sets) (sym e) shown;
    taken = ap (λ (x : World T). taken_in x.log) e ∙ sym (append-nil (taken_in w.log));
    turns = [];
    made = [];
    took = (e, refl);
    comes = refl;
  }

  -- one call
  call_comes : (request : Request) (w v : World T) (sets : Sets) → Shown defers n size w sets → Calls defers size i request w v → Comes w v sets (all_changed size (changes request w.uses v.uses) sets)
  call_comes request w v sets shown h =
      let k = calls_come defers n size last word i request w v sets shown h in
      record {
        shown = k.shown;
        taken = k.taken;
        turns = Whole i request ∷ [];
        made = changes request w.uses v.uses;
        took = (v, [], h, (refl, refl), sym (append-nil (changes request w.uses v.uses)));
        comes = refl;
      }

  -- slots settle

  register_changes : (w u : World T) → Rested defers n size w → Calls defers size i (Register' false) w u → changes (Register' false) w.uses u.uses ≡ []
  register_changes w u r h = elim (calls_registered defers n size last i false w u r h) as (λ _. changes (Register' false) w.uses u.uses ≡ []) [
    | inl same ↦ ap (λ (f : ℕ → Use). changes (Register' false) w.uses f) same ∙ refused_changes false w.uses
    | inr k ↦ ap (λ (f : ℕ → Use). changes (Register' false) w.uses f) k.2 ∙ taken_changes false w.uses k.0 k.1
  ]

  -- what it comes to
  abbrev settles_to : ℕ → Bool → Sets → After
  settles_to s true sets = left size s sets
  settles_to s false sets = quietly sets

  settle_comes : (s : ℕ) (v u : World T) (sets : Sets) → Shown defers n size v sets → (used : Use) → Settles defers size i s used v u → Comes v u sets (settles_to s (is_inside used) sets)
  settle_comes s v u sets shown Vacant h =
      comes_as v u sets (all_changed size (changes (Register' false) v.uses u.uses) sets) (quietly sets)
      (ap (λ (l : List Change). all_changed size l sets) (register_changes v u shown.rested h))
      (call_comes (Register' false) v u sets shown h)
  settle_comes s v u sets shown (Outside j) h = comes_quiet v u sets h shown
  settle_comes s v u sets shown (Inside j) h =
      comes_as v u sets (all_changed size (LeavesSet s ∷ []) sets) (left size s sets) (one_change size (LeavesSet s) sets)
      (call_comes (Leave' s) v u sets shown h)
  settle_comes s v u sets shown Changing h = comes_quiet v u sets h shown

  -- which other slots are active stays the same
  inside_same : (s : ℕ) (v u : World T) → Rested defers n size v → (used : Use) → Settles defers size i s used v u → (t : ℕ) → (t ≡ s → ⊥) → is_inside (u.uses t) ≡ is_inside (v.uses t)
  inside_same s v u r Vacant h t ne = elim (calls_registered defers n size last i false v u r h) as (λ _. is_inside (u.uses t) ≡ is_inside (v.uses t)) [
    | inl same ↦ ap (λ (f : ℕ → Use). is_inside (f t)) same
    | inr k ↦ ap (λ (f : ℕ → Use). is_inside (f t)) k.2 ∙ at k.0 (eqb t k.0) (eqb-true t k.0) (new_slot_vacant k.0 v.uses k.1)
  ]
    where
      at : (a : ℕ) (b : Bool) → (b ≡ true → t ≡ a) → v.uses a ≡ Vacant → is_inside (if b then use_taken false else v.uses t) ≡ is_inside (v.uses t)
      at a true e k = sym (ap is_inside (ap v.uses (e refl) ∙ k))
      at a false e k = refl
  inside_same s v u r (Outside j) h t ne = ap (λ (x : World T). is_inside (x.uses t)) h
  inside_same s v u r (Inside j) h t ne = ap is_inside ((leave_idles defers i size s v u h).1 t ne)
  inside_same s v u r Changing h t ne = ap (λ (x : World T). is_inside (x.uses t)) h

  module _ (w : World T) (sets : Sets) (shown : Shown defers n size w sets) where
    abbrev active_below : ℕ → List ℕ
    active_below s = ascending (λ t. is_inside (w.uses t)) s

    -- the slots below this one have settled
    abbrev Settled : ℕ → World T → Type 0
    Settled s v = Comes w v sets (all_left size (active_below s) sets) × ((t : ℕ) → s ≤ t → is_inside (v.uses t) ≡ is_inside (w.uses t))

    settle_more : (s : ℕ) (v u : World T) → Settled s v → Settles defers size i s (v.uses s) v u → Settled (suc s) u
    settle_more s v u h st =
        let a = all_left size (active_below s) sets in
        let k : Comes v u a.sets (settles_to s (is_inside (w.uses s)) a.sets) =
        subst (λ (b : Bool). Comes v u a.sets (settles_to s b a.sets)) (h.1 s (omega arith)) (settle_comes s v u a.sets h.0.shown (v.uses s) st) in (
          by (is_inside (w.uses s)) refl k,
          λ t le. inside_same s v u h.0.shown.rested (v.uses s) st t (λ e. absurd (omega (arith, e, le))) ∙ h.1 t (omega (arith, le)),
        )
      where
        by : (b : Bool) → is_inside (w.uses s) ≡ b → Comes v u (all_left size (active_below s) sets).sets (settles_to s b (all_left size (active_below s) sets).sets)
            → Comes w u sets (all_left size (active_below s ++ cond (is_inside (w.uses s)) (s ∷ []) []) sets)
        by true e k =
            comes_as w u sets (then_also (all_left size (active_below s) sets) (left size s)) (all_left size (active_below s ++ cond (is_inside (w.uses s)) (s ∷ []) []) sets)
            (sym (left_more size (active_below s) s sets) ∙ ap (λ (b : Bool). all_left size (active_below s ++ cond b (s ∷ []) []) sets) (sym e))
            (comes_then w v u sets (all_left size (active_below s) sets) (left size s) h.0 k)
        by false e k =
            comes_as w u sets (then_also (all_left size (active_below s) sets) quietly) (all_left size (active_below s ++ cond (is_inside (w.uses s)) (s ∷ []) []) sets)
            (then_quiet (all_left size (active_below s) sets)
            ∙ ap (λ (l : List ℕ). all_left size l sets) (sym (append-nil (active_below s)) ∙ ap (λ (b : Bool). active_below s ++ cond b (s ∷ []) []) (sym e)))
            (comes_then w v u sets (all_left size (active_below s) sets) quietly h.0 k)

    settle_all : (s : ℕ) (v : World T) → AllSettle defers size i s w v → Settled s v
    settle_all zero v h = (comes_quiet w v sets h shown, λ t le. ap (λ (x : World T). is_inside (x.uses t)) h)
    settle_all (suc s) v h = settle_more s h.0 v (settle_all s h.0 h.1) h.2

    -- and all active ones with them
    none_past : (slots : ℕ) (v : World T) → Settled slots v → SlotsTaken v.memory slots → (t : ℕ) → slots ≤ t → is_inside (w.uses t) ≡ false
    none_past slots v h taken t le =
        sym (h.1 t le) ∙ ap is_inside (vacant_by (v.uses t) (words_of v.memory (name.Slot t HEAD)) (head_word defers n size last v h.0.shown.rested t)
        (let z = zero_word (word_at v.memory (name.Slot t HEAD)) refl in omega (arith, z)))
      where
        zero_word : (o : Option ℕ) → word_at v.memory (name.Slot t HEAD) ≡ o → words_of v.memory (name.Slot t HEAD) ≡ 0
        zero_word None e = grind (arith, e)
        zero_word (Some a) e = word_found v.memory (name.Slot t HEAD) a e ∙ taken.1 t a le e

    pub active_is : (slots : ℕ) → slots ≤ n → ((t : ℕ) → slots ≤ t → is_inside (w.uses t) ≡ false) → active_below slots ≡ sets.active
    active_is slots le none =
        sym (cut (λ t. is_inside (w.uses t)) slots n le none)
        ∙ sym (ascending_same (λ t. is_active (shown.rested.good.state.head t)) (λ t. is_inside (w.uses t)) n
        (λ t l. active_inside (w.uses t) (shown.rested.good.state.head t) _ _ (no_team defers n size last w shown.rested t) (shown.rested.good.used.fits t)))
        ∙ shown.models.active

  -- slots flush

  pub open_none : (s : ℕ) (v : World T) (sets : Sets) → Shown defers n size v sets → s < n → words_of v.memory (name.Slot s BATCH) ≡ 0 → sets.open_batch s ≡ []
  open_none s v sets shown l z =
      let g = shown.rested.good in
      sym (shown.models.opened s l)
      ∙ none_open n i (view defers v.memory) g.state g.extra (flushing s size) g.inv g.shows l
      (no_batch (g.state.holder s) (last_of (g.state.blocks (g.state.open_batch s))) (sym (g.shows.linkage.batched s l) ∙ z)) refl

  flush_comes : (s : ℕ) (v u : World T) (sets : Sets) → Shown defers n size v sets → s < n → (o : Option ℕ) → word_at v.memory (name.Slot s BATCH) ≡ o → FlushesAny defers size i s o v u
      → Comes v u sets (flushed size s sets)
  flush_comes s v u sets shown l None e h =
      comes_as v u sets (quietly sets) (flushed size s sets) (sym (flush_quiet size s sets (open_none s v sets shown l (grind (arith, e))))) (comes_quiet v u sets h shown)
  flush_comes s v u sets shown l (Some zero) e h =
      comes_as v u sets (quietly sets) (flushed size s sets) (sym (flush_quiet size s sets (open_none s v sets shown l (word_found v.memory (name.Slot s BATCH) 0 e)))) (comes_quiet v u sets h shown)
  flush_comes s v u sets shown l (Some (suc a)) e h =
      comes_as v u sets (all_changed size (Flushes s ∷ []) sets) (flushed size s sets) (one_change size (Flushes s) sets)
      (call_comes (Flush s) v u sets shown h)

  pub flush_all : (s : ℕ) (w v : World T) (sets : Sets) → s ≤ n → Shown defers n size w sets → AllFlush defers size i s w v → Comes w v sets (emptied size s sets)
  flush_all zero w v sets l shown h = comes_quiet w v sets h shown
  flush_all (suc s) w v sets l shown h =
      let k = flush_all s w h.0 sets (omega (arith, l)) shown h.1 in
      comes_then w h.0 v sets (emptied size s sets) (flushed size s) k
      (flush_comes s h.0 v (emptied size s sets).sets k.shown (omega (arith, l)) (word_at h.0.memory (name.Slot s BATCH)) refl h.2)

  pub flush_rounds : (slots rounds : ℕ) (w v : World T) (sets : Sets) → slots ≤ n → Shown defers n size w sets → Rounds defers size i slots rounds w v → Comes w v sets (emptied_times size slots rounds sets)
  flush_rounds slots zero w v sets l shown h = comes_quiet w v sets h shown
  flush_rounds slots (suc rounds) w v sets l shown h =
      let k = flush_rounds slots rounds w h.0 sets l shown h.1 in
      comes_then w h.0 v sets (emptied_times size slots rounds sets) (emptied size slots) k (flush_all slots h.0 v (emptied_times size slots rounds sets).sets l k.shown h.2)

  -- slots are given up

  give_up_all : (s : ℕ) (w v : World T) (sets : Sets) → Shown defers n size w sets → AllGiveUp defers size i s w v → Comes w v sets (quietly sets)
  give_up_all zero w v sets shown h = comes_quiet w v sets h shown
  give_up_all (suc s) w v sets shown h =
      let k = give_up_all s w h.0 sets shown h.1 in
      comes_as w v sets (then_also (quietly sets) quietly) (quietly sets) (then_quiet (quietly sets))
      (comes_then w h.0 v sets (quietly sets) quietly k (call_comes (Unregister' s) h.0 v sets k.shown h.2))

  -- the active slots leave
  pub settled_come : (w v : World T) (sets : Sets) → Shown defers n size w sets → (r : Reclaims defers size i w v) → r.slots ≤ n → Comes w r.settled sets (all_left size sets.active sets)
  settled_come w v sets shown r le =
      let first = settle_all w sets shown r.slots r.settled r.all_settle in
      let same = active_is w sets shown r.slots le (none_past w sets shown r.slots r.settled first r.taken) in
      subst (λ (l : List ℕ). Comes w r.settled sets (all_left size l sets)) same first.0

  -- the slots ever taken are no more than there can be
  pub slots_fit : (w v : World T) (sets : Sets) → Shown defers n size w sets → (r : Reclaims defers size i w v) → r.slots ≤ n
  slots_fit w v sets shown r = elim (cases_lt n r.slots) as (λ _. r.slots ≤ n) [
    | inl l ↦
        let q = r.taken.0 n l in
        let z = none_taken defers n size last r.settled (settle_all w sets shown r.slots r.settled r.all_settle).0.shown.rested n q.0 (omega arith) q.1 in
        absurd (let k = q.2 in omega (arith, z, k))
    | inr l ↦ l
  ]

  -- and only they are active
  pub active_taken : (w v : World T) (sets : Sets) → Shown defers n size w sets → (r : Reclaims defers size i w v) → (s : ℕ) → r.slots ≤ s → count s sets.active ≡ 0
  active_taken w v sets shown r s l =
      let first = settle_all w sets shown r.slots r.settled r.all_settle in
      let same = active_is w sets shown r.slots (slots_fit w v sets shown r) (none_past w sets shown r.slots r.settled first r.taken) in
      sym (ap (count s) same) ∙ none_ascending (λ t. is_inside (w.uses t)) r.slots s l

  -- all of it: the active slots leave, and then all slots flush, in so many rounds
  pub reclaims_come : (w v : World T) (sets : Sets) → Shown defers n size w sets → (r : Reclaims defers size i w v) → r.slots ≤ n
      → Comes w v sets (then_also (all_left size sets.active sets) (emptied_times size r.slots r.rounds))
  reclaims_come w v sets shown r le =
      let a = all_left size sets.active sets in
      let one = settled_come w v sets shown r le in
      let two = comes_then w r.settled r.flushed sets a (emptied_times size r.slots r.rounds) one (flush_rounds r.slots r.rounds r.settled r.flushed a.sets le one.shown r.all_flush) in
      let b = then_also a (emptied_times size r.slots r.rounds) in
      comes_as w v sets (then_also b quietly) b (then_quiet b) (comes_then w r.flushed v sets b quietly two (give_up_all r.slots r.flushed v b.sets two.shown r.all_give_up))
