-- A call that asks puts what it was told into its own block, or gives that block up: it is to do then what it was told.
use Rattle.std.specs.Prelude.{◌≡◌, ◌≢◌, ℕ, ◌/◌, ◌<◌, ◌^◌, ◌==◌, Bool, List, Option, Some, None, if◌then◌else◌, ◌⊎◌, true, false}
use Rattle.std.proofs.Common.{refl, ap, sym, subst, ◌∙◌, inl, inr, arith}
use Rattle.std.proofs.lemmas.Bool.{eq-eqb, ne_eqb}
use Rattle.seize_model.specs.Given.SeizeWordsWord.{block_in}
use Rattle.seize_model.specs.Given.SeizeWordsMem.{Mem, value_at, with_value, with_block, Took}
use Rattle.seize_model.specs.Given.SeizeWordsOp.{Taken}
use Rattle.seize_model.specs.Given.SeizeWordsDeclared.fault.Fault.TheVariants.{Memory}
use Rattle.seize_model.specs.Given.SeizeWordsPlan.{Steps, Ends}
use Rattle.seize_model.proofs.Given.SeizeWordsOneOwner.AfterWrites.{value_at-with_value}
use Rattle.seize_model.proofs.Given.SeizeWordsOneOwner.Operations.{made as made_by_step, taken, rewritten}
use Rattle.seize_model.specs.Given.SeizeWorld.{World}
use Rattle.map_facts_late.specs.Given.TablesNodes.{vacant}
use Rattle.map_facts_late.specs.Given.RawCallFills.{taken_back, filled, putting_by, fill_by, emptied, fills_with, fills, given_up, gives_up}
use Rattle.map_facts_late.specs.Given.RawCallPoints.{word_to, standing, going}
use Rattle.map_facts_late.specs.Given.RawReplies.{owned, value_for, as_own, with_back}
use Rattle.map_facts_late.specs.Given.TablesDeclared.marks.TheConstants.{TOMBSTONE}
use Rattle.map_facts_late.specs.Given.TablesDeclared.node.Node.{Node}
use Rattle.map_facts_late.specs.Given.TablesDeclared.node.Node.TheVariants as node
use Rattle.map_facts_late.specs.Given.TablesDeclared.setting.Setting.{Setting}
use Rattle.map_facts_late.specs.Given.RawDeclared.machines.answer.Called.{Called}
use Rattle.map_facts_late.specs.Given.RawDeclared.machines.answer.Called.TheVariants.{Unstored}
use Rattle.map_facts_late.specs.Given.RawDeclared.machines.answer.End.{End}
use Rattle.map_facts_late.specs.Given.RawDeclared.machines.answer.End.TheVariants as ends
use Rattle.map_facts_late.specs.Given.RawDeclared.machines.asking.Asking.TheVariants as asking
use Rattle.map_facts_late.specs.Given.RawDeclared.machines.asking.Told.{Told}
use Rattle.map_facts_late.specs.Given.RawDeclared.machines.asking.Told.TheVariants as tells
use Rattle.map_facts_late.specs.Given.RawDeclared.machines.call.KeyCall.{KeyCall}
use Rattle.map_facts_late.specs.Given.RawDeclared.machines.call.Calling.{Calling}
use Rattle.map_facts_late.specs.Given.RawDeclared.machines.call.Calling.TheVariants as at
use Rattle.map_facts_late.specs.Given.RuleChart.{Chart}
use Rattle.map_facts_late.specs.Given.RuleWords.{Blocks, Represents}
use Rattle.map_facts_late.specs.Given.PointsFactsCalls.{Change, Unchanged, RepliesFit, Holding, ByReply, holding, IsOwnPair, IsVacant, HasKey, HasOwn, HasIts, IsToFill}
use Rattle.map_facts_late.proofs.Given.PointsCalls.Probes.{own_block, own_value}
use Rattle.map_facts_late.proofs.Given.PointsValues.Left.{made_here}
use Rattle.many_calls.specs.Asked.{Asked, ChangesAsReplied, IsWordOf, IsToRemove, IsAsReplied}
use Rattle.many_calls.proofs.Asked.Stays.{Stays, ToldTo, word_on}
use Rattle.many_calls.proofs.Asked.By.{IsNamed}
use Rattle.many_calls.proofs.Asked.Backs.{RecallsSame, backed, filled_told}
use Rattle.seize_model.proofs.Given.General.{some_is as is_some_of}

-- it asks about no pair
abbrev pub AsksNone : Calling → Type 0
AsksNone (at.Asks (asking.Present word)) = ⊥
AsksNone _ = Unit {0}

module _ {K V Q : Type 0} (same : K → K → Bool) (hash : K → ℕ) (fits : (k : K) → hash k < 2 ^ 64) (asks : Q → K → Bool) (caller : ℕ) (setting : Setting) (keys : K → Bool) (its : Option K) (asked : List (Asked V))
    (w : World (Node K V)) (m2 : Mem (Node K V)) (c c2 : Chart K) (blocks blocks2 : Blocks) (stays : Stays w.memory m2 c c2 blocks blocks2) (root : ℕ) (shows : Represents hash w.memory c blocks root)
    (change change2 : Change) (p : KeyCall K V Q) (few : p.hash < 2 ^ 64) (fit : RepliesFit p.replies) (word : ℕ) (by_reply : holding p.replies.takes p.missing ≡ ByReply)
    (h : IsAsReplied hash w.memory c blocks its asked p.replies p.own) (e : KeyCall K V Q × Called (Node K V))
    (refused : (q : KeyCall K V Q) (end : End) (back : Node K V) → e ≡ (standing q (at.Over end), Unstored back) → change2 ≡ Unchanged) where
  abbrev Then : KeyCall K V Q × Called (Node K V) → Type 0
  Then x = ToldTo hash m2 c2 blocks2 its asked change2 x.0 x.1 × RecallsSame p.replies x.0.replies × AsksNone x.0.stands

  abbrev Own : Type 0
  Own = IsOwnPair same hash asks w caller setting c blocks keys change p.own p.hash

  then_as : (x : KeyCall K V Q × Called (Node K V)) → e ≡ x → Then x → Then e
  then_as x is t = subst Then (sym is) t

  held : HasIts same hash asks w caller setting c blocks keys change p → HasOwn same hash asks w caller setting c blocks keys change ByReply p.asked p.replies.key p.own p.hash
  held has = subst (λ (x : Holding). HasOwn same hash asks w caller setting c blocks keys change x p.asked p.replies.key p.own p.hash) by_reply has

  -- it is refused a block
  over_so : (q : KeyCall K V Q) (back : Node K V) → RecallsSame p.replies q.replies → e ≡ (standing q (at.Over (ends.Refused Memory)), Unstored back) → Then e
  over_so q back recalls is =
      then_as (standing q (at.Over (ends.Refused Memory)), Unstored back) is
      ((subst (ChangesAsReplied hash m2 c2 blocks2 its asked) (sym (refused q (ends.Refused Memory) back is)) tt, λ none removes. cc removes), recalls, tt)

  pair_there : (own : Own) → value_at w.memory (p.own / 2048) ≡ Some (node.Pair own.key own.value)
  pair_there own = own_value same hash asks caller setting keys w c blocks change p.own p.hash few own

  -- what its own block had is its pair
  was_pair : (own : Own) (x : Node K V) → value_at w.memory (p.own / 2048) ≡ Some x → x ≡ node.Pair own.key own.value
  was_pair own x is = let there = pair_there own in cc (there, is)

  is_full : (own : Own) → 0 < p.own / 2048
  is_full own = let b = own_block same hash asks caller setting keys w c blocks change p.own p.hash few own in let some = own.number.0 in omega (arith, b, some)

  back_told : (own : Own) (own2 : ℕ) → ((k : K) (v : V) → 0 < own2 / 2048 → value_at m2 (own2 / 2048) ≡ Some (node.Pair k v) → ⊥)
      → IsAsReplied hash m2 c2 blocks2 its asked (with_back p.replies own.key own.value) own2 × RecallsSame p.replies (with_back p.replies own.key own.value)
  back_told own own2 out = backed hash w.memory m2 c c2 blocks blocks2 its asked stays p.replies p.own h fit own.key own.value (is_full own) (pair_there own) own2 out

  module _ (does : word ≢ 0 → block_in word ≡ p.replies.pair) (names : (word ≡ 0) ⊎ IsNamed hash fits w.memory c blocks its asked root shows word)
      (value : V) (told : value_for p.replies word ≡ Some value) (s : Steps Took value_at w.memory (fills p word) m2 e) where
    -- its key is out
    module _ (key : HasKey same hash asks w caller setting c blocks keys change p.replies.key p.hash) where
      abbrev filling : KeyCall K V Q
      filling = record p { replies = record (as_own p.replies word) { key = None } }

      fills_this : fills p word ≡ putting_by (p.own == 0) filling word key.key value
      fills_this =
          ap (λ (k : Option K). fills_with k p word) key.key_is
          ∙ ap (λ (v : Option V). fill_by v (record p { replies = as_own p.replies word }) word key.key) told

      filled_so : (own2 : ℕ) → 0 < own2 / 2048 → value_at m2 (own2 / 2048) ≡ Some (node.Pair key.key value) → Then (going (record filling { own = own2 }) (at.Tries word own2))
      filled_so own2 some there =
          let f = filled_told hash w.memory m2 c c2 blocks blocks2 its asked stays p.replies p.own h fit fits root shows key.key key.key_is word value told names does own2 some there in (f.0, f.1, tt)

      -- whatever its block is to have, it remembers the same pair
      same_recall : RecallsSame p.replies (record (as_own p.replies word) { key = None })
      same_recall = by (word == 0)
        where
          still : (told : Told V) → told ≢ tells.Nothing → owned told ≢ tells.Nothing
          still tells.Nothing some nothing = some refl
          still (tells.Value v) some nothing = cc nothing
          still tells.Own some nothing = cc nothing
          still tells.Removes some nothing = cc nothing

          by : (b : Bool) → RecallsSame p.replies (record (if b then record p.replies { absent = owned p.replies.absent } else record p.replies { present = owned p.replies.present }) { key = None })
          by true = (refl, refl, λ some. some)
          by false = (refl, refl, still p.replies.present)

      makes_so : p.own ≡ 0 → Then e
      makes_so bare =
          elim (made_by_step w.memory (filled filling word) (node.Pair key.key value) 0 m2 e
          (subst (λ plan. Steps Took value_at w.memory plan m2 e) (fills_this ∙ ap (λ (b : Bool). putting_by b filling word key.key value) (ap (λ (x : ℕ). x == 0) bare)) s)) as (λ _. Then e) [
            | inl (b, free, is, end) ↦ then_as (going (record filling { own = word_to b p.hash }) (at.Tries word (word_to b p.hash))) end
                (let at_block : word_to b p.hash / 2048 ≡ b = (let small = free.1 in omega (arith, few, small)) in
                filled_so (word_to b p.hash) (let some = free.0.1 in omega (arith, at_block, some))
                (ap (value_at m2) at_block ∙ made_here w.memory m2 (λ x. ⊥) (λ x. ⊥) (λ x. ⊥) (node.Pair key.key value) 0 b free.0 is))
            | inr (back, is, same_memory, end) ↦ over_so filling back same_recall end
          ]

      rewrites_so : IsVacant same hash asks w caller setting c blocks keys change p.own p.hash → Then e
      rewrites_so own =
          let at_block : p.own / 2048 ≡ own.block = (let is = own.word_is in let small = own.number.1 in omega (arith, is, small, few)) in
          let positive = own.number.0 in
          let some : p.own ≢ 0 = λ z. omega (arith, at_block, positive, z) in
          let d = rewritten w.memory (filled filling word) (p.own / 2048) (node.Pair key.key value) m2 e
          (subst (λ plan. Steps Took value_at w.memory plan m2 e) (fills_this ∙ ap (λ (b : Bool). putting_by b filling word key.key value) (ne_eqb p.own 0 some)) s) in
          then_as (going filling (at.Tries word p.own)) d.3
          (filled_so p.own (omega (arith, at_block, positive))
          (ap (λ (m : Mem (Node K V)). value_at m (p.own / 2048)) d.2 ∙ value_at-with_value w.memory (p.own / 2048) (node.Pair key.key value) (p.own / 2048) (is_some_of (value_at w.memory (p.own / 2048)) d.0 d.1)
          ∙ ap (λ q. if q then Some (node.Pair key.key value) else value_at w.memory (p.own / 2048)) (eq-eqb (p.own / 2048) (p.own / 2048) refl)))

    -- its key and its value are in its own block: they are taken out first
    empties_so : p.replies.key ≡ None → Own → Then e
    empties_so out own =
        let d = rewritten w.memory (emptied p word) (p.own / 2048) vacant m2 e (subst (λ plan. Steps Took value_at w.memory plan m2 e) (ap (λ (k : Option K). fills_with k p word) out) s) in
        by (now_vacant d.0 d.1 d.2) d.0 (was_pair own d.0 d.1) d.3
      where
        now_vacant : (x : Node K V) → value_at w.memory (p.own / 2048) ≡ Some x → m2 ≡ with_value w.memory (p.own / 2048) vacant → value_at m2 (p.own / 2048) ≡ Some vacant
        now_vacant x was is =
            ap (λ (m : Mem (Node K V)). value_at m (p.own / 2048)) is ∙ value_at-with_value w.memory (p.own / 2048) vacant (p.own / 2048) (is_some_of (value_at w.memory (p.own / 2048)) x was)
            ∙ ap (λ q. if q then Some vacant else value_at w.memory (p.own / 2048)) (eq-eqb (p.own / 2048) (p.own / 2048) refl)

        by : value_at m2 (p.own / 2048) ≡ Some vacant → (x : Node K V) → x ≡ node.Pair own.key own.value → Ends (value_at (with_value w.memory (p.own / 2048) vacant)) (emptied p word (Taken x)) e → Then e
        by now x is end =
            then_as (going (taken_back p own.key own.value) (at.Asks (asking.Fills word)))
            (subst (λ (y : Node K V). Ends (value_at (with_value w.memory (p.own / 2048) vacant)) (emptied p word (Taken y)) e) is end)
            (let b = back_told own p.own (λ k v some e. cc (now, e)) in ((b.0, λ some. does some ∙ sym b.1.1), b.1, tt))

    by_own : HasOwn same hash asks w caller setting c blocks keys change ByReply p.asked p.replies.key p.own p.hash → Then e
    by_own (none, inl (bare, key)) = makes_so key bare
    by_own (none, inr (out, own)) = empties_so out own

    pub fills_told : IsToFill same hash asks w caller setting c blocks keys change p → Then e
    fills_told (inl has) = by_own (held has)
    fills_told (inr (none, own, key)) = rewrites_so key own

  -- it has given its own block up
  pub gives_up_told : HasIts same hash asks w caller setting c blocks keys change p → p.own ≢ 0 → (n : ℕ) → IsWordOf hash w.memory c blocks its asked word (Some n) → IsToRemove hash w.memory c blocks its asked n
      → Steps Took value_at w.memory (gives_up p word) m2 e → Then e
  gives_up_told has some n names removes s = by_own (held has)
    where
      gone : Own → Then e
      gone own = let d = taken w.memory (given_up p word) (p.own / 2048) m2 e s in by d.0 (was_pair own d.0 d.1) d.3
        where
          by : (x : Node K V) → x ≡ node.Pair own.key own.value → Ends (value_at (with_block w.memory (p.own / 2048) None)) (given_up p word (Taken x)) e → Then e
          by x is end =
              then_as (going (taken_back (record p { own = 0 }) own.key own.value) (at.Tries word TOMBSTONE)) (subst (λ (y : Node K V). Ends (value_at (with_block w.memory (p.own / 2048) None)) (given_up p word (Taken y)) e) is end)
              (let b = back_told own 0 (λ k v some e. absurd (let none = some in omega (arith, none))) in ((b.0, inr (refl, n, word_on hash w.memory m2 c c2 blocks blocks2 its asked stays word (Some n) names, removes)), b.1, tt))

      by_own : HasOwn same hash asks w caller setting c blocks keys change ByReply p.asked p.replies.key p.own p.hash → Then e
      by_own (none, inl (bare, key)) = absurd (some bare)
      by_own (none, inr (out, own)) = gone own
