-- A step of a call on one key leaves it as one that has put no pair into the memory but that of its own block.
use Rattle.std.specs.Prelude.{◌==◌, ◌^◌, ◌<◌, Option, Some, None, Ok}
use Rattle.std.proofs.Common.{◌≡◌, ◌≢◌, ℕ, Bool, true, false, ◌⊎◌, inl, inr, refl, sym, ◌∙◌, ap, subst, arith, eqb-true}
use Rattle.std.proofs.lemmas.Bool.{eqb-false}
use Rattle.seize_words.specs.OneMemory.Mem.{Mem, Can, Took, IsFreeNumber, value_at, value_in, with_block, with_value, after as mem_after}
use Rattle.seize_words.specs.OneMemory.Op.{Out, Make, Found, Stored, Exchanged, Made, Taken, Roomed}
use Rattle.seize_words.specs.OneMemory.Plan.{May, Steps, Ends}
use Rattle.seize_words.specs.OneMemory.Word.{block_in}
use Rattle.seize_words.specs.declared.fault.Fault.TheVariants.{Memory}
use Rattle.seize_words.proofs.OneMemory.OneOwner.Operations.{made as made_by_step, taken, rewritten}
use Rattle.map_tables.specs.declared.marks.TheConstants.{TOMBSTONE}
use Rattle.map_tables.specs.declared.node.Node.{Node}
use Rattle.map_tables.specs.declared.node.Node.TheVariants as node
use Rattle.map_straight.specs.Given.ResizeCopier.{copier_plan}
use Rattle.map_straight.specs.Given.ResizeDispose.{dispose_plan}
use Rattle.map_straight.specs.Given.ResizeLookup.{lookup_plan}
use Rattle.map_straight.specs.Given.ResizeNewTable.{new_table_plan}
use Rattle.map_straight.specs.Given.ResizeDeclared.lookup.Lookup.{Lookup}
use Rattle.papaya_raw.specs.Call.{made, makes_of, dropped, looked, looks_for, first_made, next_made, disposed, helped, copied, plan_at}
use Rattle.papaya_raw.specs.CallFills.{taken_back, filled, putting_by, fill_by, emptied, fills_with, given_up}
use Rattle.papaya_raw.specs.CallPoints.{word_to, going, standing, over}
use Rattle.papaya_raw.specs.Replies.{value_for, as_own}
use Rattle.papaya_raw.specs.declared.machines.answer.Called.{Called}
use Rattle.papaya_raw.specs.declared.machines.answer.End.TheVariants as ends
use Rattle.papaya_raw.specs.declared.machines.answer.KeyAnswer.TheVariants as answers
use Rattle.papaya_raw.specs.declared.machines.answer.There.TheVariants as there
use Rattle.papaya_raw.specs.declared.machines.asking.Asking.TheVariants as asking
use Rattle.papaya_raw.specs.declared.machines.call.Calling.{Calling}
use Rattle.papaya_raw.specs.declared.machines.call.Calling.TheVariants as at
use Rattle.papaya_raw.specs.declared.machines.call.KeyCall.{KeyCall}
use Rattle.map_straight.proofs.Given.RuleKeys.Always.{Always, AlwaysOf, always_plan_as, always_steps}
use Rattle.owner_calls.specs.Holds.Came.{StandsAt, NoneCame, OwnsAt, Owns, HasOnly}
use Rattle.owner_calls.proofs.Holds.Calls.Goes.{TellsSo, GoesWith, on_to, over_so, counted_so, looked_so, first_so, next_so, helped_so, copied_so, disposed_so, root_so, nexts_so, found_so, tried_so, told_over}
use Rattle.owner_calls.proofs.Holds.Runs.Machines.{lookup_puts, table_puts, copier_puts, dispose_puts}
use Rattle.owner_calls.proofs.Holds.Runs.Puts.{PutsNoneBy, puts_as, as_it_was, made_but, taken_gone, taken_none, rewritten_but, puts_none}
use Rattle.owner_whole.proofs.Given.LateKindsKept.Calls.Asked.{word_no_tombstone as live_word}

-- the word of a block names it, and is none that a place has without a pair
module _ (b hash : ℕ) (few : hash < 2 ^ 64) (some : 0 < b) (small : b < 2 ^ 53) where
  pub names_block : block_in (word_to b hash) ≡ b
  names_block = omega (arith, few, small)

  pub some_word : word_to b hash ≢ 0
  some_word z = let e = names_block in omega (arith, z, e, some)

-- the word of a call's own block after a step: it is as it was, or nothing stood in its block before
abbrev pub OwnComes : {T : Type 0} → Mem T → ℕ → ℕ → Type 0
OwnComes m before after = (after ≡ before) ⊎ (value_at m (block_in after) ≡ None)

module _ {K V Q : Type 0} (p : KeyCall K V Q) (o : Owns p) (m0 m m2 : Mem (Node K V)) (only : HasOnly m0 m p) where
  -- it goes on so
  abbrev pub Comes : KeyCall K V Q × Called (Node K V) → Type 0
  Comes e = Owns e.0 × TellsSo e × HasOnly m0 m2 e.0 × OwnComes m p.own e.0.own

  -- what it has not made itself is as it was
  kept : (r : KeyCall K V Q) → r.own ≡ p.own → OwnComes m p.own r.own
  kept r is = inl is

  gone : OwnComes m p.own 0
  gone = inr refl

  only_same : NoneCame m m2 → (r : KeyCall K V Q) → r.own ≡ p.own → HasOnly m0 m2 r
  only_same none r is b x here = elim (only b x (none b x here)) as (λ _. StandsAt m0 b x ⊎ ((r.own ≢ 0) × (b ≡ block_in r.own))) [
    | inl was ↦ inl was
    | inr mine ↦ inr (subst (λ (own : ℕ). (own ≢ 0) × (b ≡ block_in own)) (sym is) mine)
  ]

  same_own : NoneCame m m2 → (e : KeyCall K V Q × Called (Node K V)) → GoesWith p.own e → Comes e
  same_own none e g = (g.0, g.1, only_same none e.0 g.2, kept e.0 g.2)

  -- its own block is made
  module _ (value : Node K V) (b : ℕ) (is : IsFreeNumber m b × (b < 2 ^ 53)) (later : m2 ≡ mem_after m (Make value 0) (Made (Ok b))) (none : p.own ≡ 0) where
    only_made : (r : KeyCall K V Q) → r.own ≡ word_to b p.hash → HasOnly m0 m2 r
    only_made r own c x here = elim (made_but m m2 value 0 b is.0 later c x here) as (λ _. StandsAt m0 c x ⊎ ((r.own ≢ 0) × (c ≡ block_in r.own))) [
      | inl before ↦ elim (only c x before) as (λ _. StandsAt m0 c x ⊎ ((r.own ≢ 0) × (c ≡ block_in r.own))) [
        | inl was ↦ inl was
        | inr mine ↦ absurd (mine.0 none)
      ]
      | inr its ↦
          inr (subst (λ (w : ℕ). (w ≢ 0) × (c ≡ block_in w)) (sym own) (some_word b p.hash o.code is.0.1 is.1, its ∙ sym (names_block b p.hash o.code is.0.1 is.1)))
    ]

    -- nothing stood in it
    fresh_made : (r : KeyCall K V Q) → r.own ≡ word_to b p.hash → OwnComes m p.own r.own
    fresh_made r own = inr (ap (value_at m) (ap block_in own ∙ names_block b p.hash o.code is.0.1 is.1) ∙ ap value_in is.0.0)

  -- its own block gets another pair
  only_rewritten : (value new : Node K V) → value_at m (block_in p.own) ≡ Some value → m2 ≡ with_value m (block_in p.own) new → p.own ≢ 0 → (r : KeyCall K V Q) → r.own ≡ p.own → HasOnly m0 m2 r
  only_rewritten value new there is some r own c x here = elim (rewritten_but m m2 (block_in p.own) value new there is c x here) as (λ _. StandsAt m0 c x ⊎ ((r.own ≢ 0) × (c ≡ block_in r.own))) [
    | inl before ↦ elim (only c x before) as (λ _. StandsAt m0 c x ⊎ ((r.own ≢ 0) × (c ≡ block_in r.own))) [
      | inl was ↦ inl was
      | inr mine ↦ inr (subst (λ (w : ℕ). (w ≢ 0) × (c ≡ block_in w)) (sym own) mine)
    ]
    | inr its ↦ inr (subst (λ (w : ℕ). (w ≢ 0) × (c ≡ block_in w)) (sym own) (some, its))
  ]

  -- its own block is gone
  only_gone : (value : Node K V) → value_at m (block_in p.own) ≡ Some value → m2 ≡ with_block m (block_in p.own) None → (r : KeyCall K V Q) → HasOnly m0 m2 r
  only_gone value there is r c x here = elim (only c x (taken_none m m2 (block_in p.own) value there is c x here)) as (λ _. StandsAt m0 c x ⊎ ((r.own ≢ 0) × (c ≡ block_in r.own))) [
    | inl was ↦ inl was
    | inr mine ↦ absurd (taken_gone m m2 (block_in p.own) value there is x (subst (λ (d : ℕ). StandsAt m2 d x) mine.1 here))
  ]

  nothing_live : 0 ≢ TOMBSTONE
  nothing_live e = absurd (cc e)

  -- it makes its own block
  makes_so : OwnsAt p at.Makes → (unmade : Option (Node K V)) (e : KeyCall K V Q × Called (Node K V)) → Steps Took value_at m (makes_of p unmade) m2 e → Comes e
  makes_so a None e s = subst Comes (sym s.1) (same_own (as_it_was m m2 s.0) (going p at.Roots) (on_to p o at.Roots tt))
  makes_so a (Some value) e s = elim (made_by_step m (made p) value 0 m2 e s) as (λ _. Comes e) [
    | inl d ↦
        subst Comes (sym d.3)
        (record { code = o.code; live = live_word d.0 p.hash; removes = λ r. absurd (a.1 r); point = tt }, tt, only_made value d.0 d.1 d.2 a.0 (record p { unmade = None; own = word_to d.0 p.hash; stands = at.Roots }) refl, fresh_made value d.0 d.1 d.2 a.0 (record p { unmade = None; own = word_to d.0 p.hash; stands = at.Roots }) refl)
    | inr d ↦
        subst Comes (sym d.3)
        (record { code = o.code; live = o.live; removes = o.removes; point = a.0 }, tt, only_same (as_it_was m m2 d.2) (record p { unmade = None; stands = at.Over (ends.Refused Memory) }) refl, kept (record p { unmade = None; stands = at.Over (ends.Refused Memory) }) refl)
  ]

  -- it puts a pair into its own block, which is made where there is none
  module _ (q : KeyCall K V Q) (own : q.own ≡ p.own) (hash : q.hash ≡ p.hash) (kind : q.there ≡ p.there) (some : p.there ≢ there.Removes) where
    owns_at : (r : KeyCall K V Q) → r.own ≡ q.own → r.hash ≡ q.hash → r.there ≡ q.there → OwnsAt r r.stands → Owns r
    owns_at r own2 hash2 kind2 point = record {
      code = subst (λ (x : ℕ). x < 2 ^ 64) (sym (hash2 ∙ hash)) o.code;
      live = λ e. o.live (sym own ∙ sym own2 ∙ e);
      removes = λ e. absurd (some (sym kind ∙ sym kind2 ∙ e));
      point = point;
    }

    puts_so : (b : Bool) → (q.own == 0) ≡ b → (word : ℕ) (key : K) (value : V) (e : KeyCall K V Q × Called (Node K V)) → Steps Took value_at m (putting_by b q word key value) m2 e → Comes e
    puts_so true none word key value e s = elim (made_by_step m (filled q word) (node.Pair key value) 0 m2 e s) as (λ _. Comes e) [
      | inl d ↦
          subst Comes (sym d.3) (
            record {
              code = subst (λ (x : ℕ). x < 2 ^ 64) (sym hash) o.code;
              live = live_word d.0 q.hash;
              removes = λ r. absurd (some (sym kind ∙ r));
              point = inl refl;
            },
            tt,
            only_made (node.Pair key value) d.0 d.1 d.2 (sym own ∙ eqb-true q.own 0 none) (record q { own = word_to d.0 q.hash; stands = at.Tries word (word_to d.0 q.hash) }) (ap (word_to d.0) hash),
            fresh_made (node.Pair key value) d.0 d.1 d.2 (sym own ∙ eqb-true q.own 0 none) (record q { own = word_to d.0 q.hash; stands = at.Tries word (word_to d.0 q.hash) }) (ap (word_to d.0) hash),
          )
      | inr d ↦
          subst Comes (sym d.3)
          (owns_at (standing q (at.Over (ends.Refused Memory))) refl refl refl (eqb-true q.own 0 none), tt, only_same (as_it_was m m2 d.2) (standing q (at.Over (ends.Refused Memory))) own, kept (standing q (at.Over (ends.Refused Memory))) own)
    ]
    puts_so false has word key value e s =
        let d = rewritten m (filled q word) (block_in q.own) (node.Pair key value) m2 e s in
        subst Comes (sym d.3) (
          owns_at (standing q (at.Tries word q.own)) refl refl refl (inl refl),
          tt,
          only_rewritten d.0 (node.Pair key value) (ap (λ (w : ℕ). value_at m (block_in w)) (sym own) ∙ d.1) (d.2 ∙ ap (λ (w : ℕ). with_value m (block_in w) (node.Pair key value)) own)
              (λ z. eqb-false q.own 0 has (own ∙ z)) (standing q (at.Tries word q.own)) own,
          kept (standing q (at.Tries word q.own)) own,
        )

  filled_so : p.there ≢ there.Removes → (value : Option V) (word : ℕ) (key : K) (e : KeyCall K V Q × Called (Node K V))
      → Steps Took value_at m (fill_by value (record p { replies = as_own p.replies word }) word key) m2 e → Comes e
  filled_so some None word key e s =
      subst Comes (sym s.1)
      (record { code = o.code; live = o.live; removes = o.removes; point = tt }, tt, only_same (as_it_was m m2 s.0) (record p { replies = as_own p.replies word; stands = at.Probes }) refl, kept (record p { replies = as_own p.replies word; stands = at.Probes }) refl)
  filled_so some (Some value) word key e s =
      puts_so (record p { replies = record (as_own p.replies word) { key = None } }) refl refl refl some (p.own == 0) refl word key value e s

  -- a value that was not stored comes out of it first
  emptied_so : p.there ≢ there.Removes → (word : ℕ) (out : Out (Node K V)) → Always (GoesWith p.own) (emptied p word out)
  emptied_so some word (Taken (node.Pair key value)) = (record { code = o.code; live = o.live; removes = o.removes; point = some }, tt, refl)
  emptied_so some word (Taken (node.Table len limit turn)) = on_to p o at.Probes tt
  emptied_so some word (Taken node.Shards) = on_to p o at.Probes tt
  emptied_so some word (Found found) = on_to p o at.Probes tt
  emptied_so some word Stored = on_to p o at.Probes tt
  emptied_so some word (Exchanged r) = on_to p o at.Probes tt
  emptied_so some word (Made r) = on_to p o at.Probes tt
  emptied_so some word (Roomed r) = on_to p o at.Probes tt

  fills_so : p.there ≢ there.Removes → (key : Option K) (word : ℕ) (e : KeyCall K V Q × Called (Node K V)) → May Can Took value_at m (fills_with key p word) → Steps Took value_at m (fills_with key p word) m2 e → Comes e
  fills_so some (Some key) word e may s = filled_so some (value_for p.replies word) word key e s
  fills_so some None word e may s =
      same_own (puts_none m m2 (fills_with None p word) e tt may s) e (always_steps (GoesWith p.own) m m2 (fills_with None p word) e (emptied_so some word) s)

  -- it gives its own block up
  gives_up_so : p.there ≢ there.Removes → (word : ℕ) (value : Node K V) → value_at m (block_in p.own) ≡ Some value → m2 ≡ with_block m (block_in p.own) None
      → (shown : ℕ → Option (Node K V)) (e : KeyCall K V Q × Called (Node K V)) → Ends shown (given_up p word (Taken value)) e → Comes e
  gives_up_so some word (node.Pair key value) there is shown e ends =
      subst Comes (sym ends) (
        record { code = o.code; live = nothing_live; removes = λ r. absurd (some r); point = inr refl },
        tt,
        only_gone (node.Pair key value) there is (standing (taken_back (record p { own = 0 }) key value) (at.Tries word TOMBSTONE)),
        gone,
      )
  gives_up_so some word (node.Table len limit turn) there is shown e ends =
      subst Comes (sym ends)
      (record { code = o.code; live = nothing_live; removes = λ r. absurd (some r); point = inr refl }, tt, only_gone (node.Table len limit turn) there is (record p { own = 0; stands = at.Tries word TOMBSTONE }), gone)
  gives_up_so some word node.Shards there is shown e ends =
      subst Comes (sym ends)
      (record { code = o.code; live = nothing_live; removes = λ r. absurd (some r); point = inr refl }, tt, only_gone node.Shards there is (record p { own = 0; stands = at.Tries word TOMBSTONE }), gone)

  module _ (asks : Q → K → Bool) (same : K → K → Bool) (hash : K → ℕ) (e : KeyCall K V Q × Called (Node K V)) where
    -- a point at which it keeps its own block, and puts no pair
    at_point : (stands : Calling) → AlwaysOf (GoesWith p.own) (plan_at asks same hash p stands) → PutsNoneBy (plan_at asks same hash p stands)
        → May Can Took value_at m (plan_at asks same hash p stands) → Steps Took value_at m (plan_at asks same hash p stands) m2 e → Comes e
    at_point stands all none may s =
        same_own (puts_none m m2 (plan_at asks same hash p stands) e none may s) e (always_steps (GoesWith p.own) m m2 (plan_at asks same hash p stands) e all s)

    looks_so : p.own ≡ 0 → (l : Lookup) (asked : Option Q) → May Can Took value_at m (looks_for asks p l asked) → Steps Took value_at m (looks_for asks p l asked) m2 e → Comes e
    looks_so none l (Some q) may s =
        same_own (puts_none m m2 (looks_for asks p l (Some q)) e (puts_as (looked p) (lookup_plan (asks q) l) (lookup_puts K V (asks q) l)) may s) e
        (always_steps (GoesWith p.own) m m2 (looks_for asks p l (Some q)) e (always_plan_as (GoesWith p.own) (looked p) (looked_so p o none) (lookup_plan (asks q) l)) s)
    looks_so none l None may s = subst Comes (sym s.1) (same_own (as_it_was m m2 s.0) (over p (ends.Answered answers.Absent)) (over_so p o (ends.Answered answers.Absent) none))

    from : (stands : Calling) → OwnsAt p stands → May Can Took value_at m (plan_at asks same hash p stands) → Steps Took value_at m (plan_at asks same hash p stands) m2 e → Comes e
    from at.Makes a may s = makes_so a p.unmade e s
    from (at.Looks l) a may s = looks_so a l p.asked may s
    from at.Roots a may s = at_point at.Roots (root_so p o) tt may s
    from at.Probes a may s = at_point at.Probes (found_so p o asks same) tt may s
    from (at.Tries word new) a may s = at_point (at.Tries word new) (tried_so p o asks same word new a) tt may s
    from (at.Counts removed) a may s = at_point (at.Counts removed) (λ out. counted_so p o removed a) tt may s
    from at.Nexts a may s = at_point at.Nexts (nexts_so p o) tt may s
    from (at.Firsts making) a may s =
        at_point (at.Firsts making) (always_plan_as (GoesWith p.own) (first_made p) (first_so p o) (new_table_plan making)) (puts_as (first_made p) (new_table_plan making) (table_puts K V making)) may s
    from (at.Allocs making) a may s =
        at_point (at.Allocs making) (always_plan_as (GoesWith p.own) (next_made p) (next_so p o) (new_table_plan making)) (puts_as (next_made p) (new_table_plan making) (table_puts K V making)) may s
    from (at.Helps copier goal) a may s =
        at_point (at.Helps copier goal) (always_plan_as (GoesWith p.own) (helped p goal) (helped_so p o goal) (copier_plan hash copier))
        (puts_as (helped p goal) (copier_plan hash copier) (copier_puts K V hash copier)) may s
    from (at.Copies copier) a may s =
        at_point (at.Copies copier) (always_plan_as (GoesWith p.own) (copied p) (copied_so p o) (copier_plan hash copier)) (puts_as (copied p) (copier_plan hash copier) (copier_puts K V hash copier)) may s
    from (at.Asks (asking.Absent gap)) a may s = subst Comes (sym s.1) (o, tt, only_same (as_it_was m m2 s.0) p refl, kept p refl)
    from (at.Asks (asking.Present word)) a may s = subst Comes (sym s.1) (o, tt, only_same (as_it_was m m2 s.0) p refl, kept p refl)
    from (at.Asks (asking.Fills word)) a may s = fills_so a p.replies.key word e may s
    from (at.Asks (asking.GivesUp word)) a may s = let d = taken m (given_up p word) (block_in p.own) m2 e s in gives_up_so a word d.0 d.1 d.2 _ e d.3
    from (at.Disposes dispose answer) a may s =
        at_point (at.Disposes dispose answer) (always_plan_as (GoesWith p.own) (disposed p answer) (disposed_so p o answer a) (dispose_plan dispose))
        (puts_as (disposed p answer) (dispose_plan dispose) (dispose_puts K V dispose)) may s
    from (at.Drops end) a may s =
        let d = taken m (dropped p end) (block_in p.own) m2 e s in
        subst Comes (sym d.3)
        (record { code = o.code; live = nothing_live; removes = λ r. ((o.removes r).0, refl); point = a }, tt, only_gone d.0 d.1 d.2 (record p { own = 0; stands = at.Over end }), gone)
    from (at.Over end) a may s = at_point (at.Over end) (told_over p o end a) tt may s

    pub step_comes : May Can Took value_at m (plan_at asks same hash p p.stands) → Steps Took value_at m (plan_at asks same hash p p.stands) m2 e → Comes e
    step_comes may s = from p.stands o.point may s
