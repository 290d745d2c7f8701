-- Where a step of a call has led, or a call has begun or was told something, each other seat knows what is so.
use Rattle.std.specs.Prelude.{◌≢◌, Option, Some, None}
use Rattle.std.proofs.Common.{◌≡◌, ℕ, Bool, ◌⊎◌, inl, inr, refl, sym, subst, ap, ◌∙◌, true, false, List, [], ◌∷◌}
use Rattle.seize_words.specs.OneMemory.Mem.{value_at}
use Rattle.seize.specs.Law.{holds, owner_of}
use Rattle.seize.specs.World.{Row, Use, Vacant, Outside, Inside, Changing, IsInside}
use Rattle.map_tables.specs.Nodes.{deferred_word}
use Rattle.map_tables.specs.declared.node.Node.{Node}
use Rattle.map_tables.specs.declared.setting.Setting.{Setting}
use Rattle.many_acts.specs.Given.CallersRows.{IsUsedAlike, IsRowOn}
use Rattle.many_acts.specs.Given.CallersTogether.{UnderWay}
use Rattle.many_acts.specs.Given.FinishesMaps.{Standing, with_call}
use Rattle.many_acts.specs.Given.ScenesScene.{Scene}
use Rattle.many_acts.proofs.Acts.Counts.{its_call, other_call}
use Rattle.seize_views.specs.Views.Rows.{use_of}
use Rattle.seize_views.specs.declared.view.Has.{Has}
use Rattle.seize_views.specs.declared.view.Has.TheVariants.{Nothing as NoBlock, Made, Seen, Both, Cut, Walks}
use Rattle.seize_views.specs.declared.view.SlotView.{SlotView}
use Rattle.seize_views.specs.declared.view.SlotView.TheVariants as slot_view
use Rattle.threads_rule.specs.Views.Rule.{IsIdle, IsUsedSo, IsSlot, DoesSo, KnowsMap, KnowsPair, Fits, IsAside, IsLeant, caller_at, place_of, acts_in, section_of, IsInSection, IsOfCall, IsOfMap, IsHeld, AllHeld, KnowsTable}
use Rattle.threads_rule.specs.declared.view.Map.{Map}
use Rattle.threads_rule.specs.declared.view.BegunCall.{BegunCall}
use Rattle.threads_rule.specs.declared.view.View.{View}
use Rattle.threads_rule.specs.declared.view.SeatWork.{SeatWork}
use Rattle.threads_rule.specs.declared.view.SeatWork.TheVariants.{Nothing, Calls, Makes, Ends}
use Rattle.seize_views.proofs.Views.Moved.{not_vacant}
use Rattle.threads_rule.proofs.Views.Numbers.{seat_apart, slot_apart}
use Rattle.threads_rule.proofs.Views.Made.{KeepsMade}
use Rattle.threads_rule.proofs.Views.Ran.{Keeps, Passes}
use Rattle.many_acts.proofs.Given.CallersTogether.Slots.{alike_same, alike_then as alike_on}
use Rattle.seize_words.proofs.General.{same_some}

pub stays_inside : (u v : Use) → IsUsedAlike u v → IsInside u → IsInside v
stays_inside Vacant v is inside = absurd inside
stays_inside (Outside n) v is inside = absurd inside
stays_inside (Inside n) v is inside = subst (λ (x : Use). IsInside x) (sym is.1) tt
stays_inside Changing v is inside = absurd inside

-- what is used like a slot that is nobody's is nobody's
pub alike_vacant : (u : Use) → IsUsedAlike u Vacant → u ≡ Vacant
alike_vacant Vacant is = refl
alike_vacant (Outside n) is = absurd (cc is.1)
alike_vacant (Inside n) is = absurd (cc is.1)
alike_vacant Changing is = absurd (cc is)

pub inside_alike : (u : Use) → IsInside u → IsUsedAlike (Inside 0) u
inside_alike Vacant is = absurd is
inside_alike (Outside n) is = absurd is
inside_alike (Inside n) is = (n, refl)
inside_alike Changing is = absurd is

module _ {X : Type 0} (calls : ℕ → ℕ → Option X) (m i : ℕ) (it : Option X) where
  pub call_here : with_call calls m i it m i ≡ it
  call_here = its_call calls i m i m it refl refl

  pub call_other : (n j : ℕ) → j ≢ i → with_call calls m i it n j ≡ calls n j
  call_other n j ne = other_call calls j n i m it (λ e f. ne (sym e))

  pub call_elsewhere : (n : ℕ) → n ≢ m → with_call calls m i it n i ≡ calls n i
  call_elsewhere n ne = other_call calls i n i m it (λ e f. ne (sym f))

-- who holds a slot leans on nobody
pub own_slot : {T : Type 0} (under : Option (ℕ × ℕ)) (slot : SlotView T) (t : ℕ) (a : Use) → IsAside under slot → use_of slot ≡ Some (t, a) → under ≡ None
own_slot None slot t a is uses = refl
own_slot (Some leant) slot t a is uses = let none = ap use_of is in absurd (cc (none, uses))

-- the section of a seat that leans on none is that of its own slot
pub own_section : {T : Type 0} (slot : SlotView T) (t : ℕ) → section_of None slot ≡ Some t → slot ≡ slot_view.Inside t NoBlock
own_section (slot_view.Inside a NoBlock) t is = ap (λ (b : ℕ). slot_view.Inside b NoBlock) (same_some a t is)
own_section (slot_view.Inside a (Made b x)) t is = absurd (cc is)
own_section (slot_view.Inside a (Seen b)) t is = absurd (cc is)
own_section (slot_view.Inside a (Both b x c)) t is = absurd (cc is)
own_section (slot_view.Inside a (Cut b)) t is = absurd (cc is)
own_section (slot_view.Inside a (Walks b next)) t is = absurd (cc is)
own_section slot_view.Rests t is = absurd (cc is)
own_section (slot_view.Registers c) t is = absurd (cc is)
own_section (slot_view.Outside a) t is = absurd (cc is)
own_section (slot_view.Owes a b) t is = absurd (cc is)
own_section (slot_view.Enters a) t is = absurd (cc is)
own_section (slot_view.Settles c why seen left) t is = absurd (cc is)
own_section (slot_view.Leaves a size way) t is = absurd (cc is)
own_section (slot_view.Left a size way) t is = absurd (cc is)
own_section (slot_view.Frees a) t is = absurd (cc is)
own_section (slot_view.Brings b x) t is = absurd (cc is)
own_section (slot_view.Bears b) t is = absurd (cc is)
own_section (slot_view.Watches a b) t is = absurd (cc is)
own_section (slot_view.Under n a b) t is = absurd (cc is)
own_section (slot_view.Joins block) t is = absurd (cc is)
own_section (slot_view.Defers a c) t is = absurd (cc is)
own_section (slot_view.Busy a) t is = absurd (cc is)

-- who has calls under way within a section is the caller of that slot
pub section_place : {T : Type 0} (under : Option (ℕ × ℕ)) (slot : SlotView T) (t : ℕ) → section_of under slot ≡ Some t → acts_in under slot ≡ t
section_place {T} None slot t is = ap (λ (x : SlotView T). place_of x) (own_section slot t is)
section_place (Some leant) slot t is = same_some leant.1 t is

module _ {K V S : Type 0} (same : K → K → Bool) (hash : S → K → ℕ) where
  -- who is within a section by what it knows is within one
  pub inside_of : (scene : Scene K V) (j t : ℕ) (v : View K V S) (has : Has (Node K V)) → Fits same hash scene j v → v.slot ≡ slot_view.Inside t has → IsInside (scene.world.uses t)
  inside_of scene j t v has f is = by v.work v.map f.does
    where
      own : v.under ≡ None
      own = own_slot v.under v.slot t (Inside 0) f.aside (ap use_of is)

      by : (work : SeatWork K V S) (map : Option (Map S)) → DoesSo same hash scene (caller_at j (acts_in v.under v.slot)) v.under v.slot map work → IsInside (scene.world.uses t)
      by Nothing map d =
          stays_inside (Inside 0) (scene.world.uses t) (subst (λ (x : SlotView (Node K V)). IsUsedSo scene.world (use_of x)) is d.slot) tt
      by (Calls machine) None d = absurd d
      by (Calls machine) (Some map) d =
          let here = own_section v.slot d.0 (ap (λ (u : Option (ℕ × ℕ)). section_of u v.slot) (sym own) ∙ d.1) in
          subst (λ (a : ℕ). IsInside (scene.world.uses a)) (same_slot (sym here ∙ is)) d.2
        where
          same_slot : slot_view.Inside d.0 NoBlock ≡ slot_view.Inside t has → d.0 ≡ t
          same_slot e = cc e
      by (Makes mine m hasher opening) map d = let rests = d.0 in absurd (cc (rests, is))
      by (Ends machine) map d = let rests = d.0 in absurd (cc (rests, is))

  -- and so is the one within whose section it has calls under way
  pub section_inside : (scene : Scene K V) (view : ℕ → Option (View K V S)) → ((j : ℕ) (v : View K V S) → view j ≡ Some v → Fits same hash scene j v)
      → ((j n t : ℕ) (v : View K V S) → view j ≡ Some v → v.under ≡ Some (n, t) → IsLeant view n t)
      → (j : ℕ) (v : View K V S) → view j ≡ Some v → (t : ℕ) → section_of v.under v.slot ≡ Some t → IsInside (scene.world.uses t)
  section_inside scene view seats leant j v at t section = by v.under refl section
    where
      by : (under : Option (ℕ × ℕ)) → v.under ≡ under → section_of under v.slot ≡ Some t → IsInside (scene.world.uses t)
      by None e is = inside_of scene j t v NoBlock (seats j v at) (own_section v.slot t is)
      by (Some at_it) e is =
          let base = leant j at_it.0 at_it.1 v at e in
          inside_of scene at_it.0 t base.0 NoBlock (seats at_it.0 base.0 base.1) (base.2 ∙ ap (λ (a : ℕ). slot_view.Inside a NoBlock) (same_some at_it.1 t is))

  -- What a step of this caller leaves: what the others have under way, how slots are used but its own, the maps as callers know them, what sections hold, what the
  -- collector has, and within how many steps the others settle. One map at most ends by it.
  pub record Leaves (size : ℕ) (s n : Scene K V) (i : ℕ) (mine : Option (ℕ × Use)) : Type 0 where
    pub rows : (k : ℕ) → k ≢ i → n.world.row k ≡ s.world.row k
    pub calls : (m k : ℕ) → k ≢ i → n.calls m k ≡ s.calls m k
    pub makers : (k : ℕ) → k ≢ i → n.makers k ≡ s.makers k
    pub enders : (k : ℕ) → k ≢ i → n.enders k ≡ s.enders k
    pub uses : (t : ℕ) → (s.world.uses t ≡ Vacant → ⊥) → ((a : Use) → mine ≡ Some (t, a) → ⊥) → IsUsedAlike (s.world.uses t) (n.world.uses t)
    pub ends : Option ℕ
    pub maps : (m : ℕ) (r : Standing K) → (ends ≡ Some m → ⊥) → s.maps m ≡ Some r → (r2 : Standing K) × (n.maps m ≡ Some r2) × (r2.setting ≡ r.setting) × (r2.hash ≡ r.hash)
    pub held : (t b m : ℕ) (r : Standing K) → ((a : Use) → mine ≡ Some (t, a) → ⊥) → IsInside (s.world.uses t) → (ends ≡ Some m → ⊥) → s.maps m ≡ Some r → owner_of b s.world.log ≡ r.setting.counter
        → holds t b s.world.log ≡ true
        → (holds t b n.world.log ≡ true) × (owner_of b n.world.log ≡ owner_of b s.world.log) × (value_at n.world.memory b ≡ value_at s.world.memory b)
    pub made : (k : ℕ) → k ≢ i → KeepsMade s.world n.world k
    pub keeps : Keeps s.world n.world
    pub passes : (c : ℕ) → i ≢ c → Passes deferred_word size s.world n.world c

  -- who has looked at nothing has looked at no table
  pub no_table : (scene : Scene K V) (work : SeatWork K V S) → KnowsTable same hash scene work []
  no_table scene Nothing = tt
  no_table scene (Calls machine) = tt
  no_table scene (Makes mine m hasher opening) = tt
  no_table scene (Ends machine) = λ b x none. absurd (cc none)

  -- nothing has changed but a call
  pub leaves_all : (size : ℕ) (s : Scene K V) (m i : ℕ) (it : Option (UnderWay K V K)) → Leaves size s (record s { calls = with_call s.calls m i it }) i None
  leaves_all size s m i it = record {
    rows = λ k ne. refl;
    calls = λ n k ne. call_other s.calls m i it n k ne;
    makers = λ k ne. refl;
    enders = λ k ne. refl;
    uses = λ t used apart. alike_same (s.world.uses t);
    ends = None;
    maps = λ n r lasts is. (r, is, refl, refl);
    held = λ t b m r apart inside lasts stands owner held. (held, refl, refl);
    made = λ k ne b x made is other. is;
    keeps = λ b its there some. refl;
    passes = λ c ne was now. ([], refl);
  }

  pub none_ends : (size : ℕ) (s : Scene K V) (m i : ℕ) (it : Option (UnderWay K V K)) → (leaves_all size s m i it).ends ≡ None
  unfolding leaves_all
  none_ends size s m i it = refl

  module _ (s next : Scene K V) (id t : ℕ) (its_slot : IsSlot t) (size : ℕ) (mine : Option (ℕ × Use)) (leaves : Leaves size s next (caller_at id t) mine) where
    abbrev i : ℕ
    i = caller_at id t

    idle_on : (k : ℕ) → k ≢ i → IsIdle s k → IsIdle next k
    idle_on k ne f = record {
      calls = λ n. leaves.calls n k ne ∙ f.calls n;
      makers = leaves.makers k ne ∙ f.makers;
      enders = leaves.enders k ne ∙ f.enders;
      row = leaves.rows k ne ∙ f.row;
    }

    pub unborn_on : (j a : ℕ) → j ≢ id → IsSlot a → IsIdle s (caller_at j a) → IsIdle next (caller_at j a)
    unborn_on j a ne is f = idle_on (caller_at j a) (λ e. ne (seat_apart j id a t is its_slot e)) f

    -- this slot is not its own
    abbrev IsTheirs : ℕ → Type 0
    IsTheirs a = (u : Use) → mine ≡ Some (a, u) → ⊥

    abbrev AreTheirs : Option (ℕ × Use) → Type 0
    AreTheirs o = (a : ℕ) (u : Use) → o ≡ Some (a, u) → IsTheirs a

    pub section_on : (a : ℕ) → IsTheirs a → IsInside (s.world.uses a) → IsInside (next.world.uses a)
    section_on a apart is = stays_inside (s.world.uses a) (next.world.uses a) (leaves.uses a (λ v. subst (λ (u : Use). IsInside u) v is) apart) is

    used_on : (o : Option (ℕ × Use)) → ((a : ℕ) (u : Use) → o ≡ Some (a, u) → u ≡ Vacant → ⊥) → AreTheirs o → IsUsedSo s.world o → IsUsedSo next.world o
    used_on None there apart f = tt
    used_on (Some slot) there apart f =
        alike_on slot.1 (s.world.uses slot.0) (next.world.uses slot.0) f
        (leaves.uses slot.0 (λ v. there slot.0 slot.1 refl (alike_vacant slot.1 (subst (λ (u : Use). IsUsedAlike slot.1 u) v f))) (apart slot.0 slot.1 refl))

    does_on : (k : ℕ) → k ≢ i → (under : Option (ℕ × ℕ)) (slot : SlotView (Node K V)) → AreTheirs (use_of slot) → ((a : ℕ) → section_of under slot ≡ Some a → IsTheirs a)
        → (map : Option (Map S)) (work : SeatWork K V S) → DoesSo same hash s k under slot map work → DoesSo same hash next k under slot map work
    does_on k ne under slot apart within map Nothing f = record {
      row = leaves.rows k ne ∙ f.row;
      slot = used_on (use_of slot) (λ a u. not_vacant slot a u) apart f.slot;
      calls = λ n. leaves.calls n k ne ∙ f.calls n;
      makers = leaves.makers k ne ∙ f.makers;
      enders = leaves.enders k ne ∙ f.enders;
    }
    does_on k ne under slot apart within None (Calls p) f = absurd f
    does_on k ne under slot apart within (Some map) (Calls p) f =
        (f.0, f.1, section_on f.0 (within f.0 f.1) f.2, record { call = f.3.call; here = leaves.calls map.number k ne ∙ f.3.here; is = f.3.is }, subst (λ (x : Row). IsRowOn f.0 x) (sym (leaves.rows k ne)) f.4)
    does_on k ne under slot apart within map (Ends machine) f =
        (f.0, record { ending = f.1.ending; here = leaves.enders k ne ∙ f.1.here; is = f.1.is; calls = λ a. leaves.calls a k ne ∙ f.1.calls a }, leaves.rows k ne ∙ f.2)
    does_on k ne under slot apart within map (Makes mine n hasher opening) f = (
      f.0,
      record { making = f.1.making; here = leaves.makers k ne ∙ f.1.here; map = f.1.map; hashes = f.1.hashes; is = f.1.is; calls = λ a. leaves.calls a k ne ∙ f.1.calls a },
      leaves.rows k ne ∙ f.2,
    )

    -- a map that has not ended
    abbrev pub Lasts : Option (Map S) → Type 0
    Lasts None = Unit {0}
    Lasts (Some map) = leaves.ends ≡ Some map.number → ⊥

    pub map_on : (map : Option (Map S)) → Lasts map → KnowsMap same hash s map → KnowsMap same hash next map
    map_on None lasts f = tt
    map_on (Some map) lasts f = let g = leaves.maps map.number f.0 lasts f.1 in (g.0, g.1, g.2 ∙ f.2, g.3 ∙ f.3)

    -- where none has ended
    pub all_last : leaves.ends ≡ None → (map : Option (Map S)) → Lasts map
    all_last none None = tt
    all_last none (Some map) = λ e. cc (none, e)

    table_on : (work : SeatWork K V S) (looks : List (ℕ × Node K V)) → ((b : ℕ) (x : Node K V) → value_at s.world.memory b ≡ Some x → IsOfCall same hash work b → value_at next.world.memory b ≡ Some x)
        → KnowsTable same hash s work looks → KnowsTable same hash next work looks
    table_on Nothing looks lasts f = tt
    table_on (Calls machine) looks lasts f = tt
    table_on (Makes mine m hasher opening) looks lasts f = tt
    table_on (Ends machine) looks lasts f = λ b x shown. let here = f b x shown in (lasts b x here.0 here.1, here.1)

    pair_on : (k : ℕ) → k ≢ i → (map : Option (Map S)) (work : SeatWork K V S) (runs : List (BegunCall K V)) → KnowsPair same hash s k map work runs → KnowsPair same hash next k map work runs
    pair_on k ne map Nothing runs f = tt
    pair_on k ne map (Makes mine m hasher opening) runs f = tt
    pair_on k ne map (Ends machine) runs f = tt
    pair_on k ne None (Calls p) runs f = tt
    pair_on k ne (Some map) (Calls p) runs f = λ u is. f u (sym (leaves.calls map.number k ne) ∙ is)

    -- what is held for a caller
    module _ (k : ℕ) (ne : k ≢ i) (under : Option (ℕ × ℕ)) (slot : SlotView (Node K V)) (within : (a : ℕ) → section_of under slot ≡ Some a → IsTheirs a)
        (inside : (a : ℕ) → section_of under slot ≡ Some a → IsInside (s.world.uses a)) (map : Option (Map S)) (stands : Lasts map) (knows : KnowsMap same hash s map) (work : SeatWork K V S)
        (lasts : (b : ℕ) (x : Node K V) → value_at s.world.memory b ≡ Some x → IsOfCall same hash work b → value_at next.world.memory b ≡ Some x) where
      section_held : (known : Option (Map S)) → map ≡ known → (b a : ℕ) → section_of under slot ≡ Some a → holds a b s.world.log ≡ true → IsOfMap known b s.world
          → (holds a b next.world.log ≡ true) × IsOfMap known b next.world × (value_at next.world.memory b ≡ value_at s.world.memory b)
      section_held None e b a section held of = absurd of
      section_held (Some it) e b a section held of =
          let known = subst (λ (o : Option (Map S)). KnowsMap same hash s o) e knows in
          let g = leaves.held a b it.number known.0 (within a section) (inside a section) (subst Lasts e stands) known.1 (of ∙ ap (λ (x : Setting). x.counter) (sym known.2)) held in
          (g.0, g.1 ∙ of, g.2)

      look_on : (look : ℕ × Node K V) → value_at s.world.memory look.0 ≡ Some look.1 → IsInSection same hash s under slot map look.0 ⊎ IsOfCall same hash work look.0
          → IsHeld same hash next under slot map work look
      look_on look is (inl (a, section, held, of)) =
          let g = section_held map refl look.0 a section held of in (g.2 ∙ is, inl (a, section, g.0, g.1))
      look_on look is (inr of) = (lasts look.0 look.1 is of, inr of)

      pub held_on : (looks : List (ℕ × Node K V)) → AllHeld same hash s under slot map work looks → AllHeld same hash next under slot map work looks
      held_on [] f = tt
      held_on (look ∷ looks) f = let h = f.0 in (look_on look h.0 h.1, held_on looks f.1)

    -- each other seat knows what is so
    pub fits_on : (j : ℕ) (v : View K V S) → j ≢ id → AreTheirs (use_of v.slot) → ((a : ℕ) → section_of v.under v.slot ≡ Some a → IsTheirs a)
        → ((a : ℕ) → section_of v.under v.slot ≡ Some a → IsInside (s.world.uses a))
        → ((b : ℕ) (x : Node K V) → value_at s.world.memory b ≡ Some x → IsOfCall same hash v.work b → value_at next.world.memory b ≡ Some x)
        → Lasts v.map → Lasts v.own → Fits same hash s j v → Fits same hash next j v
    fits_on j v ne apart within inside lasts stands owns f = record {
      slot = f.slot;
      does = does_on (caller_at j (acts_in v.under v.slot)) (λ e. ne (seat_apart j id (acts_in v.under v.slot) t f.slot its_slot e)) v.under v.slot apart within v.map v.work f.does;
      aside = f.aside;
      map = map_on v.map stands f.map;
      own = map_on v.own owns f.own;
      only = f.only;
      table = table_on v.work v.looks lasts f.table;
      held =
          held_on (caller_at j (acts_in v.under v.slot)) (λ e. ne (seat_apart j id (acts_in v.under v.slot) t f.slot its_slot e)) v.under v.slot within inside v.map stands f.map v.work lasts v.held f.held;
      pair = pair_on (caller_at j (acts_in v.under v.slot)) (λ e. ne (seat_apart j id (acts_in v.under v.slot) t f.slot its_slot e)) v.map v.work v.calls f.pair;
      idle = λ a is other. unborn_on j a ne is (f.idle a is other);
    }

    -- in other slots its seat has nothing under way
    pub own_idle : ((a : ℕ) → IsSlot a → a ≢ t → IsIdle s (caller_at id a)) → (a : ℕ) → IsSlot a → a ≢ t → IsIdle next (caller_at id a)
    own_idle idle a is ne = idle_on (caller_at id a) (λ e. ne (slot_apart id id a t is its_slot e)) (idle a is ne)
