-- What a step of a call on one key has seen, at no row, its section holds, or it is the call's own pair, with which it goes on.
use Rattle.std.specs.Prelude.{◌==◌, ◌/◌, ◌^◌, ◌<◌, Option, Some, None, if◌then◌else◌}
use Rattle.std.proofs.Common.{◌≡◌, ℕ, suc, Bool, true, false, ◌⊎◌, inl, inr, refl, sym, subst, ap, arith, ◌∙◌}
use Rattle.std.proofs.lemmas.Bool.{ne_eqb}
use Rattle.run_shows.specs.Given.SeizeWordsDeclared.at.At.TheVariants.{Root, Word}
use Rattle.run_shows.specs.Given.SeizeWordsMem.{Mem, value_at, word_at}
use Rattle.run_shows.specs.Given.SeizeWordsOp.{Taken}
use Rattle.run_shows.specs.Given.SeizeWordsPlan.{Then, Now, Ends}
use Rattle.run_shows.specs.Given.SeizeWorld.{World}
use Rattle.run_shows.specs.Given.SeizeDeclared.advance.Advance.{Advance}
use Rattle.run_shows.specs.Given.TablesFinding.{may_name}
use Rattle.run_shows.specs.Given.TablesNodes.{table_seen, vacant}
use Rattle.run_shows.specs.Given.TablesTablePlaces.{at_word}
use Rattle.run_shows.specs.Given.TablesTrials.{place_tried}
use Rattle.run_shows.specs.Given.TablesDeclared.node.Node.{Node}
use Rattle.run_shows.specs.Given.TablesDeclared.node.Node.TheVariants as node
use Rattle.run_shows.specs.Given.TablesDeclared.setting.Setting.{Setting}
use Rattle.run_shows.specs.Given.TablesDeclared.table_words.TheConstants.{NEXT}
use Rattle.run_shows.specs.Given.ResizeCopier.{copier_plan}
use Rattle.run_shows.specs.Given.ResizeDispose.{dispose_plan}
use Rattle.run_shows.specs.Given.ResizeNewTable.{new_table_plan}
use Rattle.run_shows.specs.Given.ResizeLookup.{lookup_plan}
use Rattle.run_shows.specs.Given.ResizeDeclared.lookup.Lookup.{Lookup}
use Rattle.run_shows.specs.Given.ResizeDeclared.new_table.NewTable.{NewTable}
use Rattle.run_shows.specs.Given.RawCall as call
use Rattle.run_shows.specs.Given.RawCall.{call_plan, plan_at, pair_read, key_read, word_read}
use Rattle.run_shows.specs.Given.RawCallFills as fills
use Rattle.run_shows.specs.Given.RawCallPoints.{entering, continued_in, told, tableless, at_last}
use Rattle.run_shows.specs.Given.RawReplies.{value_for, as_own}
use Rattle.run_shows.specs.Given.RawDeclared.machines.answer.Called.{Called}
use Rattle.run_shows.specs.Given.RawDeclared.machines.asking.Asking.{Asking}
use Rattle.run_shows.specs.Given.RawDeclared.machines.asking.Asking.TheVariants as asking
use Rattle.run_shows.specs.Given.RawDeclared.machines.call.Calling.{Calling}
use Rattle.run_shows.specs.Given.RawDeclared.machines.call.Calling.TheVariants as at
use Rattle.run_shows.specs.Given.RawDeclared.machines.call.KeyCall.{KeyCall}
use Rattle.run_shows.specs.Given.RuleChart.{Chart}
use Rattle.run_shows.specs.Given.RuleWords.{Blocks}
use Rattle.run_shows.specs.Given.RuleMaps.{IsTable, IsTrial}
use Rattle.run_shows.specs.Given.RuleInWorld.{IsMapIn}
use Rattle.owner_facts.specs.Given.PointsFactsCalls.{Change, Holding, Apart, InBlock, ByReply, holding, HasOwn, HasIts, IsOwnPair, CallingFacts, CallFacts}
use Rattle.owner_facts.specs.Given.PointsFactsTables.{NewTableFacts}
use Rattle.owner_facts.specs.Given.PointsTold.{IsRowOfCall}
use Rattle.many_acts.specs.Looks.Blocks.{MayLookAt}
use Rattle.many_acts.specs.Looks.Sees.{HasSeen}
use Rattle.many_acts.proofs.Looks.Sees.Copiers.{root_link, next_link, copier_sees, copier_sees_at_once}
use Rattle.many_acts.proofs.Looks.Sees.Disposals.{dispose_sees}
use Rattle.many_acts.proofs.Looks.Sees.Held.{AllSeen, sees_link}
use Rattle.many_acts.proofs.Looks.Sees.Lookups.{tried_held, lookup_sees}
use Rattle.many_acts.proofs.Looks.Sees.Operations.{loads, exchanges, makes, takes, rewrites}
use Rattle.many_acts.proofs.Looks.Sees.Own.{KeepsIt, told_keeps}
use Rattle.many_acts.proofs.Looks.Sees.Plans.{seen_as}
use Rattle.many_acts.proofs.Looks.Sees.Tables.{new_table_sees}

module _ {K V Q : Type 0} (same : K → K → Bool) (hash : K → ℕ) (asks : Q → K → Bool) (fits : (k : K) → hash k < 2 ^ 64) (w : World (Node K V)) (slot caller : ℕ) (c : Chart K) (seen : Blocks)
    (setting : Setting) (Held : ℕ → Type 0) (within : AllSeen Held c seen) (map : IsMapIn same hash setting w c seen)
    (keys : K → Bool) (change : Change) (p : KeyCall K V Q) (setting_is : p.setting ≡ setting) (code : p.hash < 2 ^ 64) where
  -- its own pair was seen, and no more was done: it goes on with it
  pub record SawOwn (b : ℕ) (n : Mem (Node K V)) (end : KeyCall K V Q × Called (Node K V)) : Type 0 where
    pub own : IsOwnPair same hash asks w caller setting c seen keys change p.own p.hash
    pub block : b ≡ p.own / 2048
    pub some : (p.own == 0) ≡ false
    pub memory : n ≡ w.memory
    pub keeps : KeepsIt p.own end

  module _ (b : ℕ) (n : Mem (Node K V)) (end : KeyCall K V Q × Called (Node K V)) where
    abbrev IsHeld : Type 0
    IsHeld = Held b

    abbrev pub Lasts : Type 0
    Lasts = IsHeld ⊎ SawOwn b n end

    abbrev shown : ℕ → Option (Node K V)
    shown = value_at n

    -- it ends so, and has seen the block
    abbrev EndsSeeing : Then (Node K V) (KeyCall K V Q × Called (Node K V)) → Type 0
    EndsSeeing rest = Ends shown rest end × MayLookAt b shown rest

    own_some : IsOwnPair same hash asks w caller setting c seen keys change p.own p.hash → (p.own == 0) ≡ false
    own_some own =
        let is = own.word_is in let number = own.number in
        ne_eqb p.own 0 (omega (arith, is, number.0, number.1, code))

    -- the word of its try was read
    module _ (same_memory : n ≡ w.memory) (t j : ℕ) (trial : IsTrial c seen p.trial p.hash t j) (loaded : Bool) (word : ℕ) (read : word_at w.memory (place_tried p.trial) ≡ Some word) where
      -- the pair that it may name
      pair_held : may_name p.hash word ≡ true → Held (word / 2048)
      pair_held = tried_held same hash fits w slot caller c seen setting Held within map p.trial p.hash t j trial word read

      by_pair : may_name p.hash word ≡ true → b ≡ word / 2048 → Lasts
      by_pair may is = inl (subst (λ (x : ℕ). Held x) (sym is) (pair_held may))

      by_key : may_name p.hash word ≡ true → IsOwnPair same hash asks w caller setting c seen keys change p.own p.hash → EndsSeeing (key_read asks same loaded p word None) → Lasts
      by_key may own ((value, is, ends), inl mine) = inr (record {
        own = own;
        block = mine;
        some = own_some own;
        memory = same_memory;
        keeps = subst (λ (x : KeyCall K V Q × Called (Node K V)). KeepsIt p.own x) (sym ends.2) (told_keeps p (own_some own) loaded word (call.have_one_key same value ends.0));
      })
      by_key may own (ends, inr (value, is, inl pair)) = by_pair may pair
      by_key may own (ends, inr (value, is, inr (other, there, none))) = absurd none

      by_own : may_name p.hash word ≡ true → p.asked ≡ None → p.replies.key ≡ None → IsOwnPair same hash asks w caller setting c seen keys change p.own p.hash
          → EndsSeeing (pair_read asks same loaded p word p.asked) → Lasts
      by_own may asked key own sees =
          by_key may own
          (subst (λ (k : Option K). EndsSeeing (key_read asks same loaded p word k)) key
          (subst (λ (a : Option Q). EndsSeeing (pair_read asks same loaded p word a)) asked sees))

      by_holding : may_name p.hash word ≡ true → (x : Holding) → HasOwn same hash asks w caller setting c seen keys change x p.asked p.replies.key p.own p.hash
          → EndsSeeing (pair_read asks same loaded p word p.asked) → Lasts
      by_holding may InBlock (asked, key, own) sees = by_own may asked key own sees
      by_holding may ByReply (asked, inr (key, own)) sees = by_own may asked key own sees
      by_holding may ByReply (asked, inl (zero, has)) sees =
          by_one (subst (λ (k : Option K). EndsSeeing (key_read asks same loaded p word k)) has.key_is
          (subst (λ (a : Option Q). EndsSeeing (pair_read asks same loaded p word a)) asked sees))
        where
          by_one : EndsSeeing (key_read asks same loaded p word (Some has.key)) → Lasts
          by_one (ends, inl pair) = by_pair may pair
          by_one (ends, inr (value, is, none)) = absurd none
      by_holding may Apart (zero, q, asked, agree) sees = by_one (subst (λ (a : Option Q). EndsSeeing (pair_read asks same loaded p word a)) asked sees)
        where
          by_one : EndsSeeing (pair_read asks same loaded p word (Some q)) → Lasts
          by_one (ends, inl pair) = by_pair may pair
          by_one (ends, inr (value, is, none)) = absurd none

      by_word : (x : Bool) → may_name p.hash word ≡ x → HasOwn same hash asks w caller setting c seen keys change (holding p.replies.takes p.missing) p.asked p.replies.key p.own p.hash
          → EndsSeeing (if x then pair_read asks same loaded p word p.asked else Now (told loaded p word false)) → Lasts
      by_word true may own sees = by_holding may (holding p.replies.takes p.missing) own sees
      by_word false may own sees = absurd sees.1

      read_lasts : HasOwn same hash asks w caller setting c seen keys change (holding p.replies.takes p.missing) p.asked p.replies.key p.own p.hash
          → EndsSeeing (word_read asks same loaded p word) → Lasts
      read_lasts own sees = by_word (may_name p.hash word) refl own sees

    root_at : (root : ℕ) → word_at w.memory (Root p.setting.root) ≡ Some root → word_at w.memory (Root setting.root) ≡ Some root
    root_at root read = ap (λ (x : Setting). word_at w.memory (Root x.root)) (sym setting_is) ∙ read

    none_made : (o : Option (Node K V)) → HasSeen b w.memory (call.makes_of p o) n end → ⊥
    none_made None saw = saw.2
    none_made (Some value) saw = elim (makes b w.memory n end (call.made p) value 0 saw) as (λ _. ⊥) [
      | inl made ↦ made.1.1
      | inr back ↦ back.1.1
    ]

    none_emptied : (word : ℕ) (value : Node K V) → MayLookAt b shown (fills.emptied p word (Taken value)) → ⊥
    none_emptied word (node.Pair key value) sees = sees
    none_emptied word (node.Table len limit turn) sees = sees
    none_emptied word node.Shards sees = sees

    none_given : (word : ℕ) (value : Node K V) → MayLookAt b shown (fills.given_up p word (Taken value)) → ⊥
    none_given word (node.Pair key value) sees = sees
    none_given word (node.Table len limit turn) sees = sees
    none_given word node.Shards sees = sees

    none_put : (x : Bool) (q : KeyCall K V Q) (word : ℕ) (key : K) (value : V) → HasSeen b w.memory (fills.putting_by x q word key value) n end → ⊥
    none_put true q word key value saw = elim (makes b w.memory n end (fills.filled q word) (node.Pair key value) 0 saw) as (λ _. ⊥) [
      | inl made ↦ made.1.1
      | inr back ↦ back.1.1
    ]
    none_put false q word key value saw = let r = rewrites b w.memory n end (fills.filled q word) (q.own / 2048) (node.Pair key value) saw in r.1.1

    none_filled : (o : Option V) (q : KeyCall K V Q) (word : ℕ) (key : K) → HasSeen b w.memory (fills.fill_by o q word key) n end → ⊥
    none_filled (Some value) q word key saw = none_put (q.own == 0) (record q { replies = record q.replies { key = None } }) word key value saw
    none_filled None q word key saw = saw.2

    none_fills : (o : Option K) (word : ℕ) → HasSeen b w.memory (fills.fills_with o p word) n end → ⊥
    none_fills (Some key) word saw = none_filled (value_for p.replies word) (record p { replies = as_own p.replies word }) word key saw
    none_fills None word saw = let r = rewrites b w.memory n end (fills.emptied p word) (p.own / 2048) vacant saw in none_emptied word r.0 r.1.1

    pub none_asks : (stands : Asking) → HasSeen b w.memory (fills.asks_at p stands) n end → ⊥
    none_asks (asking.Absent gap) saw = saw.2
    none_asks (asking.Present word) saw = saw.2
    none_asks (asking.Fills word) saw = none_fills p.replies.key word saw
    none_asks (asking.GivesUp word) saw = let t = takes b w.memory n end (fills.given_up p word) (p.own / 2048) saw in none_given word t.0 t.1.1

    -- it reads the root, or the link to the next table
    pub root_lasts : HasSeen b w.memory (plan_at asks same hash p at.Roots) n end → Lasts
    root_lasts saw =
        let l = loads b w.memory n (Root p.setting.root) end (call.root_found p) saw in
        inl (sees_link w slot c seen Held within shown l.0 c.first (root_link same hash fits w slot caller c seen setting Held within map l.0 (root_at l.0 l.1))
        (tableless p.missing p) (λ value. entering p (table_seen l.0 value)) b l.3.1)

    pub next_lasts : (t : ℕ) → IsTable c seen p.trial.table t → HasSeen b w.memory (plan_at asks same hash p at.Nexts) n end → Lasts
    next_lasts t entered saw =
        let l = loads b w.memory n (at_word p.trial.table NEXT) end (call.next_found p) saw in
        inl (sees_link w slot c seen Held within shown l.0 (suc t) (next_link same hash fits w slot caller c seen setting Held within map p.trial.table t entered l.0 l.1)
        (at_last p.missing p) (λ value. continued_in p (table_seen l.0 value)) b l.3.1)

    -- it is at a try
    pub probe_lasts : HasIts same hash asks w caller setting c seen keys change p → (t j : ℕ) → IsTrial c seen p.trial p.hash t j → HasSeen b w.memory (plan_at asks same hash p at.Probes) n end → Lasts
    probe_lasts its t j trial saw = let l = loads b w.memory n (place_tried p.trial) end (call.word_found asks same p) saw in read_lasts l.2 t j trial true l.0 l.1 its l.3

    pub try_lasts : (word new : ℕ) → HasIts same hash asks w caller setting c seen keys change p → (t j : ℕ) → IsTrial c seen p.trial p.hash t j
        → HasSeen b w.memory (plan_at asks same hash p (at.Tries word new)) n end → Lasts
    try_lasts word new its t j trial saw = elim (exchanges b w.memory n (place_tried p.trial) end (call.tried asks same p word new) word new saw) as (λ _. Lasts) [
      | inl made ↦ absurd made.1.1
      | inr found ↦ read_lasts found.2 t j trial false found.0 found.1 its found.3
    ]

    -- it makes the next table
    pub alloc_lasts : (making : NewTable) (t : ℕ) → NewTableFacts w caller setting c seen (Word (seen.table t) NEXT) (suc t) making → HasSeen b w.memory (plan_at asks same hash p (at.Allocs making)) n end → Lasts
    alloc_lasts making t making_facts saw =
        let s = seen_as (call.next_made p) b w.memory (new_table_plan making) n end saw in
        inl (new_table_sees w slot caller c seen setting Held within (Word (seen.table t) NEXT) (suc t) making b n s.0 making_facts s.2)

    -- its lookup has seen what its section holds, whatever it is asked with
    pub looked_lasts : (l : Lookup) → ((asked : K → Bool) (next : Lookup × Advance (Option ℕ)) → HasSeen b w.memory (lookup_plan asked l) n next → IsHeld)
        → HasSeen b w.memory (plan_at asks same hash p (at.Looks l)) n end → Lasts
    looked_lasts l held saw = by p.asked saw
      where
        by : (asked : Option Q) → HasSeen b w.memory (call.looks_for asks p l asked) n end → Lasts
        by (Some q) saw = let s = seen_as (call.looked p) b w.memory (lookup_plan (asks q) l) n end saw in inl (held (asks q) s.0 s.2)
        by None saw = absurd saw.2

    lasts_at : (stands : Calling) → CallingFacts same hash asks w caller setting c seen keys change p stands → (IsRowOfCall stands → ⊥) → HasSeen b w.memory (plan_at asks same hash p stands) n end → Lasts
    lasts_at at.Makes point none saw = absurd (none_made p.unmade saw)
    lasts_at (at.Looks l) (own, missing, there, q, asked, agree, looks) none saw =
        looked_lasts l (λ with next seen_so. lookup_sees same hash fits w slot caller c seen setting Held within map keys with p.hash l looks b n next seen_so) saw
    lasts_at at.Roots point none saw = root_lasts saw
    lasts_at at.Probes (its, (t, j, trial, before, root)) none saw = probe_lasts its t j trial saw
    lasts_at (at.Tries word new) (its, may, (t, j, trial, before, root)) none saw = try_lasts word new its t j trial saw
    lasts_at (at.Counts removed) point none saw = absurd saw.3
    lasts_at at.Nexts (its, t, (entered, shut)) none saw = next_lasts t entered saw
    lasts_at (at.Firsts making) (its, stores, making_facts) none saw =
        let s = seen_as (call.first_made p) b w.memory (new_table_plan making) n end saw in
        inl (new_table_sees w slot caller c seen setting Held within (Root setting.root) 0 making b n s.0 making_facts s.2)
    lasts_at (at.Allocs making) (its, t, tried, making_facts) none saw = alloc_lasts making t making_facts saw
    lasts_at (at.Helps copier goal) (its, incr, part, t, entered, shut, copier_facts) none saw =
        let s = seen_as (call.helped p goal) b w.memory (copier_plan hash copier) n end saw in
        inl (copier_sees same hash fits w slot caller c seen setting Held within map copier copier_facts none b n s.0 s.2)
    lasts_at (at.Copies copier) (its, blocking, copier_facts) none saw =
        let s = seen_as (call.copied p) b w.memory (copier_plan hash copier) n end saw in
        inl (copier_sees_at_once same hash fits w slot caller c seen setting Held within map copier copier_facts none b n s.0 s.2)
    lasts_at (at.Asks stands) point none saw = absurd (none_asks stands saw)
    lasts_at (at.Disposes dispose answer) (dispose_facts, tells) none saw =
        let s = seen_as (call.disposed p answer) b w.memory (dispose_plan dispose) n end saw in
        inl (dispose_sees same hash fits w slot caller c seen setting Held within map dispose dispose_facts b n s.0 none s.2)
    lasts_at (at.Drops over) point none saw = let t = takes b w.memory n end (call.dropped p over) (p.own / 2048) saw in absurd t.1.1
    lasts_at (at.Over over) point none saw = absurd saw.2

    pub call_lasts : CallFacts same hash asks w caller setting c seen keys change p → (IsRowOfCall p.stands → ⊥) → HasSeen b w.memory (call_plan asks same hash p) n end → Lasts
    call_lasts facts none saw = lasts_at p.stands facts.point none saw
