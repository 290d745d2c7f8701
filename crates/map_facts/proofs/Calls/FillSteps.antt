-- A call that asks puts what it was told into its own block, or gives that block up: where these steps lead.
use Rattle.std.specs.Prelude.{◌≡◌, ◌≢◌, ℕ, ◌==◌, ◌^◌, ◌<◌, Bool, Option, Some, None, Ok, Err, if◌then◌else◌}
use Rattle.std.proofs.Common.{refl, ap, sym, subst, ◌∙◌, inl, inr, arith}
use Rattle.std.proofs.lemmas.Bool.{eq-eqb, ne_eqb}
use Rattle.map_rule.specs.Given.SeizeWordsWord.{block_in}
use Rattle.map_rule.specs.Given.SeizeWordsMem.{Mem, block_of, value_in, value_at, with_value, with_block, fresh, Can, Took}
use Rattle.map_rule.specs.Given.SeizeWordsOp.{Out, Make, Rewrite, Found, Stored, Exchanged, Made, Taken, Roomed}
use Rattle.map_rule.specs.Given.SeizeWordsPlan.{Do, May, MaySee, Steps, Ends}
use Rattle.map_rule.proofs.Given.SeizeWordsOneOwner.AfterWrites.{block_of-made, value_at-with_value}
use Rattle.map_rule.proofs.Given.SeizeWordsOneOwner.Operations.{may_make, made as made_by_step, may_take, taken, rewritten}
use Rattle.papaya_raw.specs.Given.SeizeWorld.{World, Making}
use Rattle.papaya_raw.specs.Given.TablesNodes.{vacant}
use Rattle.papaya_raw.specs.CallFills.{taken_back, filled, putting_by, fill_by, emptied, fills_with, fills, given_up, gives_up}
use Rattle.papaya_raw.specs.CallPoints.{word_to, standing, going}
use Rattle.papaya_raw.specs.Replies.{value_for, as_own, with_back}
use Rattle.papaya_raw.specs.Given.TablesDeclared.marks.TheConstants.{TOMBSTONE}
use Rattle.papaya_raw.specs.Given.TablesDeclared.node.Node.{Node}
use Rattle.papaya_raw.specs.Given.TablesDeclared.node.Node.TheVariants as node
use Rattle.papaya_raw.specs.Given.TablesDeclared.setting.Setting.{Setting}
use Rattle.papaya_raw.specs.declared.machines.answer.End.TheVariants as ends
use Rattle.papaya_raw.specs.declared.machines.answer.Missing.{Missing}
use Rattle.papaya_raw.specs.declared.machines.answer.Called.{Called}
use Rattle.papaya_raw.specs.declared.machines.answer.Called.TheVariants.{Unstored}
use Rattle.papaya_raw.specs.declared.machines.asking.Asking.TheVariants as asking
use Rattle.papaya_raw.specs.declared.machines.asking.Takes.{Takes}
use Rattle.papaya_raw.specs.declared.machines.asking.Takes.TheVariants as takes
use Rattle.papaya_raw.specs.declared.machines.asking.Replies.{Replies}
use Rattle.papaya_raw.specs.declared.machines.call.KeyCall.{KeyCall}
use Rattle.papaya_raw.specs.declared.machines.call.Calling.TheVariants as at
use Rattle.map_rule.specs.Given.SeizeWordsDeclared.fault.Fault.TheVariants.{Memory}
use Rattle.map_rule.specs.Chart.{Chart}
use Rattle.map_rule.specs.Words.{Blocks}
use Rattle.map_rule.specs.InWorld.{IsMapIn, StepSpec}
use Rattle.map_facts.specs.FactsCalls.{Unchanged, RepliesFit, MayAsk, Holding, ByReply, holding, IsOwnPair, IsVacant, HasKey, HasOwn, HasIts, IsToFill}
use Rattle.map_rule.proofs.World.WentStill.{went_still}
use Rattle.map_rule.proofs.World.WentMade.{world_made, world_dropped, went_made, went_dropped}
use Rattle.map_rule.proofs.World.WentRewrote.{went_rewritten}
use Rattle.map_facts.proofs.Calls.Replied.{IsBack, is_back, owns}
use Rattle.map_rule.proofs.Given.General.{some_is as is_some_of}

-- one that has its key, or its pair, takes values
told_values : (x : Takes) (m : Missing) → holding x m ≡ ByReply → x ≢ takes.Choices
told_values takes.Nothing m e c = absurd (cc c)
told_values takes.Values m e c = absurd (cc c)
told_values takes.Changes m e c = absurd (cc c)
told_values takes.Choices m e c = absurd (cc e)

-- whatever follows looks at no block
filled_sees : {K V Q : Type 0} (shown : ℕ → Option (Node K V)) (c : KeyCall K V Q) (word : ℕ) (out : Out (Node K V)) → MaySee shown (filled c word out)
filled_sees shown c word (Found _) = tt
filled_sees shown c word Stored = tt
filled_sees shown c word (Exchanged (Ok _)) = tt
filled_sees shown c word (Exchanged (Err _)) = tt
filled_sees shown c word (Made (Ok _)) = tt
filled_sees shown c word (Made (Err _)) = tt
filled_sees shown c word (Taken _) = tt
filled_sees shown c word (Roomed (Ok _)) = tt
filled_sees shown c word (Roomed (Err _)) = tt

emptied_sees : {K V Q : Type 0} (shown : ℕ → Option (Node K V)) (c : KeyCall K V Q) (word : ℕ) (out : Out (Node K V)) → MaySee shown (emptied c word out)
emptied_sees shown c word (Found _) = tt
emptied_sees shown c word Stored = tt
emptied_sees shown c word (Exchanged (Ok _)) = tt
emptied_sees shown c word (Exchanged (Err _)) = tt
emptied_sees shown c word (Made (Ok _)) = tt
emptied_sees shown c word (Made (Err _)) = tt
emptied_sees shown c word (Taken (node.Pair _ _)) = tt
emptied_sees shown c word (Taken (node.Table _ _ _)) = tt
emptied_sees shown c word (Taken node.Shards) = tt
emptied_sees shown c word (Roomed (Ok _)) = tt
emptied_sees shown c word (Roomed (Err _)) = tt

module _ {K V Q : Type 0} (same : K → K → Bool) (hash : K → ℕ) (asks : Q → K → Bool) (caller : ℕ) (setting : Setting) (keys : K → Bool)
    (w : World (Node K V)) (c : Chart K) (blocks : Blocks) (map : IsMapIn same hash setting w c blocks) (p : KeyCall K V Q) (may_ask : MayAsk p) (few : p.hash < 2 ^ 64)
    (word : ℕ) (by_reply : holding p.replies.takes p.missing ≡ ByReply) where
  abbrev Own : World (Node K V) → ℕ → Type 0
  Own v own = IsOwnPair same hash asks v caller setting c blocks keys Unchanged own p.hash

  abbrev Its : World (Node K V) → KeyCall K V Q → Type 0
  Its v q = HasIts same hash asks v caller setting c blocks keys Unchanged q

  abbrev Key : World (Node K V) → Option K → Type 0
  Key v out = HasKey same hash asks v caller setting c blocks keys Unchanged out p.hash

  -- a word names its own block
  block_is : (own b : ℕ) → own ≡ word_to b p.hash → b < 2 ^ 53 → block_in own ≡ b
  block_is own b is small = omega (arith, is, small, few)

  own_some : (own b : ℕ) → own ≡ word_to b p.hash → (0 < b) × (b < 2 ^ 53) → own ≢ 0
  own_some own b is number z = let at = block_is own b is number.1 in let some = number.0 in omega (arith, at, z, some)

  held : Its w p → HasOwn same hash asks w caller setting c blocks keys Unchanged ByReply p.asked p.replies.key p.own p.hash
  held its = subst (λ (x : Holding). HasOwn same hash asks w caller setting c blocks keys Unchanged x p.asked p.replies.key p.own p.hash) by_reply its

  -- with its pair in a block
  its_pair : (v : World (Node K V)) (replies : Replies K V) (own : ℕ) → replies.takes ≡ p.replies.takes → p.asked ≡ None → replies.key ≡ None → Own v own
      → Its v (record p { replies = replies; own = own })
  its_pair v replies own takes_is asked out pair =
      subst (λ (x : Holding). HasOwn same hash asks v caller setting c blocks keys Unchanged x p.asked replies.key own p.hash) (sym (ap (λ (x : Takes). holding x p.missing) takes_is ∙ by_reply))
      (asked, inr (out, pair))

  -- it is told a value for the word, and its key is out
  module _ (value : V) (told : value_for p.replies word ≡ Some value) (key : Key w p.replies.key) where
    abbrev filling : KeyCall K V Q
    filling = record p { replies = record (as_own p.replies word) { key = None } }

    fits : RepliesFit (record (as_own p.replies word) { key = None }) × ((as_own p.replies word).takes ≡ p.replies.takes)
    fits = owns p.replies may_ask.1 key.key key.key_is (told_values p.replies.takes p.missing by_reply) word value told

    fills_this : fills p word ≡ putting_by (p.own == 0) filling word key.key value
    fills_this =
        ap (λ (k : Option K). fills_with k p word) key.key_is
        ∙ ap (λ (v : Option V). fill_by v (record p { replies = as_own p.replies word }) word key.key) told

    -- its pair is in its block
    filled_pair : (v : World (Node K V)) (own b : ℕ) → (0 < b) × (b < 2 ^ 53) → own ≡ word_to b p.hash → v.hand b ≡ Making caller → value_at v.memory b ≡ Some (node.Pair key.key value) → Own v own
    filled_pair v own b number word_is hand there = record {
      block = b;
      key = key.key;
      value = value;
      number = number;
      word_is = word_is;
      hand = hand;
      there = there;
      keys_are = key.keys_are;
      code_is = key.code_is;
    }

    -- it has no block yet
    makes_this : p.own ≡ 0 → fills p word ≡ Do (Make (node.Pair key.key value) 0) (filled filling word)
    makes_this bare = fills_this ∙ ap (λ (b : Bool). putting_by b filling word key.key value) (ap (λ (x : ℕ). x == 0) bare)

    may_makes : p.own ≡ 0 → May Can Took value_at w.memory (fills p word)
    may_makes bare = subst (λ plan. May Can Took value_at w.memory plan) (sym (makes_this bare))
        (may_make w.memory (filled filling word) (node.Pair key.key value) 0 (λ b is. tt) (λ back is. tt))

    -- its block is there, and vacant
    module _ (own : IsVacant same hash asks w caller setting c blocks keys Unchanged p.own p.hash) where
      rewrites_this : fills p word ≡ Do (Rewrite (block_in p.own) (node.Pair key.key value)) (filled filling word)
      rewrites_this = fills_this ∙ ap (λ (b : Bool). putting_by b filling word key.key value) (ne_eqb p.own 0 (own_some p.own own.block own.word_is own.number))

      vacant_block : block_in p.own ≡ own.block
      vacant_block = block_is p.own own.block own.word_is own.number.1

      vacant_there : value_at w.memory (block_in p.own) ≡ Some vacant
      vacant_there = ap (value_at w.memory) vacant_block ∙ own.there

      may_rewrites : May Can Took value_at w.memory (fills p word)
      may_rewrites = subst (λ plan. May Can Took value_at w.memory plan) (sym rewrites_this) (is_some_of _ _ vacant_there, λ out n t. filled_sees (value_at n) filling word out)

  -- its pair is in its block
  module _ (own : Own w p.own) where
    pair_block : block_in p.own ≡ own.block
    pair_block = block_is p.own own.block own.word_is own.number.1

    pair_there : value_at w.memory (block_in p.own) ≡ Some (node.Pair own.key own.value)
    pair_there = ap (value_at w.memory) pair_block ∙ own.there

    its_key : (v : World (Node K V)) (replies : Replies K V) → replies.key ≡ Some own.key → Key v replies.key
    its_key v replies is = record { key = own.key; key_is = is; keys_are = own.keys_are; code_is = own.code_is }

    abbrev backed : Replies K V
    backed = with_back p.replies own.key own.value

    is_out : IsBack p.replies may_ask.1 own.key own.value backed
    is_out = is_back p.replies may_ask.1 own.key own.value

    -- it takes the pair out
    empties_this : p.replies.key ≡ None → fills p word ≡ Do (Rewrite (block_in p.own) vacant) (emptied p word)
    empties_this out = ap (λ (k : Option K). fills_with k p word) out

    may_empties : p.replies.key ≡ None → May Can Took value_at w.memory (fills p word)
    may_empties out = subst (λ plan. May Can Took value_at w.memory plan) (sym (empties_this out)) (is_some_of _ _ pair_there, λ out n t. emptied_sees (value_at n) p word out)

    -- or takes the block away
    pub may_gives_up : May Can Took value_at w.memory (gives_up p word)
    may_gives_up = may_take w.memory (given_up p word) (block_in p.own) (is_some_of _ _ pair_there) (λ value is. given_sees (value_at (with_block w.memory (block_in p.own) None)) value)
      where
        given_sees : (shown : ℕ → Option (Node K V)) (value : Node K V) → MaySee shown (given_up p word (Taken value))
        given_sees shown (node.Pair _ _) = tt
        given_sees shown (node.Table _ _ _) = tt
        given_sees shown node.Shards = tt

  pub may_fills : (value : V) → value_for p.replies word ≡ Some value → IsToFill same hash asks w caller setting c blocks keys Unchanged p → May Can Took value_at w.memory (fills p word)
  may_fills value told (inl its) = by (held its)
    where
      by : HasOwn same hash asks w caller setting c blocks keys Unchanged ByReply p.asked p.replies.key p.own p.hash → May Can Took value_at w.memory (fills p word)
      by (asked, inl (bare, key)) = may_makes value told key bare
      by (asked, inr (out, own)) = may_empties own out
  may_fills value told (inr (asked, own, key)) = may_rewrites value told key own

  -- What is so where it has its pair in its own block, which is to replace the word, where it has yet to fill it, and where memory was refused,
  module _ (Told : World (Node K V) → Chart K → Blocks → KeyCall K V Q × Called (Node K V) → Type 0)
      (stores : (v : World (Node K V)) (replies : Replies K V) (own : ℕ) → replies.takes ≡ p.replies.takes → RepliesFit replies → Its v (record p { replies = replies; own = own }) → Own v own
      → Told v c blocks (going (record p { replies = replies; own = own }) (at.Tries word own)))
      (goes : (v : World (Node K V)) (replies : Replies K V) → replies.takes ≡ p.replies.takes → RepliesFit replies
      → IsToFill same hash asks v caller setting c blocks keys Unchanged (record p { replies = replies }) → ((value : V) × (value_for replies word ≡ Some value))
      → Told v c blocks (going (record p { replies = replies }) (at.Asks (asking.Fills word))))
      (refused : (replies : Replies K V) (back : Node K V) → replies.takes ≡ p.replies.takes → RepliesFit replies
      → Told w c blocks (standing (record p { replies = replies }) (at.Over (ends.Refused Memory)), Unstored back))
      (m2 : Mem (Node K V)) (end : KeyCall K V Q × Called (Node K V)) (value : V) (told : value_for p.replies word ≡ Some value)
      (s : Steps Took value_at w.memory (fills p word) m2 end) where
    abbrev GoesTo : KeyCall K V Q × Called (Node K V) → Type 0
    GoesTo e = StepSpec same hash setting caller w c blocks m2 (λ w2 c2 blocks2. Told w2 c2 blocks2 e)

    by_end : (other : KeyCall K V Q × Called (Node K V)) → end ≡ other → GoesTo other → GoesTo end
    by_end other is went = subst GoesTo (sym is) went

    filled_so : p.asked ≡ None → (key : Key w p.replies.key) → (v : World (Node K V)) (own : ℕ) → Own v own → Told v c blocks (going (record (filling value told key) { own = own }) (at.Tries word own))
    filled_so asked key v own pair =
        let f = fits value told key in
        stores v (record (as_own p.replies word) { key = None }) own f.1 f.0 (its_pair v (record (as_own p.replies word) { key = None }) own f.1 asked refl pair) pair

    went_makes : p.asked ≡ None → (key : Key w p.replies.key) → p.own ≡ 0 → GoesTo end
    went_makes asked key bare =
        elim (made_by_step w.memory (filled (filling value told key) word) (node.Pair key.key value) 0 m2 end (subst (λ plan. Steps Took value_at w.memory plan m2 end) (makes_this value told key bare) s))
        as (λ _. GoesTo end) [
          | inl (b, is, after, e) ↦ by_end (going (record (filling value told key) { own = word_to b p.hash }) (at.Tries word (word_to b p.hash))) e
              (went_made same hash setting w c blocks map caller (node.Pair key.key value) 0 b tt is m2 after
              (λ w2 c2 blocks2. Told w2 c2 blocks2 (going (record (filling value told key) { own = word_to b p.hash }) (at.Tries word (word_to b p.hash))))
              (filled_so asked key (world_made same hash setting w c blocks map caller (node.Pair key.key value) 0 b) (word_to b p.hash)
              (filled_pair value told key (world_made same hash setting w c blocks map caller (node.Pair key.key value) 0 b) (word_to b p.hash) b (is.0.1, is.1) refl
              (ap (λ q. if q then Making caller else w.hand b) (eq-eqb b b refl))
              (ap value_in (block_of-made w.memory (node.Pair key.key value) 0 b b is.0)
              ∙ ap (λ q. value_in (if q then Some (fresh (node.Pair key.key value) 0) else block_of w.memory b)) (eq-eqb b b refl)))))
          | inr (back, is, after, e) ↦ by_end (standing (filling value told key) (at.Over (ends.Refused Memory)), Unstored back) e
              (went_still same hash setting caller w c blocks map m2 after (λ w2 c2 blocks2. Told w2 c2 blocks2 (standing (filling value told key) (at.Over (ends.Refused Memory)), Unstored back))
              (let f = fits value told key in refused (record (as_own p.replies word) { key = None }) back f.1 f.0))
        ]

    went_rewrites : p.asked ≡ None → (key : Key w p.replies.key) → IsVacant same hash asks w caller setting c blocks keys Unchanged p.own p.hash → GoesTo end
    went_rewrites asked key own =
        let d = rewritten w.memory (filled (filling value told key) word) (block_in p.own) (node.Pair key.key value) m2 end (subst (λ plan. Steps Took value_at w.memory plan m2 end) (rewrites_this value told key own) s) in
        by_end (going (filling value told key) (at.Tries word p.own)) d.3
        (went_rewritten same hash setting w c blocks map (block_in p.own) caller vacant (node.Pair key.key value) (ap w.hand (vacant_block value told key own) ∙ own.hand) (vacant_there value told key own) (λ e. cc e) refl refl m2 d.2
        (λ w2 c2 blocks2. Told w2 c2 blocks2 (going (filling value told key) (at.Tries word p.own)))
        (filled_so asked key after p.own (filled_pair value told key after p.own own.block own.number own.word_is own.hand new_there)))
      where
        after : World (Node K V)
        after = record w { memory = with_value w.memory (block_in p.own) (node.Pair key.key value) }

        new_there : value_at (with_value w.memory (block_in p.own) (node.Pair key.key value)) own.block ≡ Some (node.Pair key.key value)
        new_there =
            value_at-with_value w.memory (block_in p.own) (node.Pair key.key value) own.block (is_some_of _ _ (vacant_there value told key own))
            ∙ ap (λ q. if q then Some (node.Pair key.key value) else value_at w.memory own.block) (eq-eqb own.block (block_in p.own) (sym (vacant_block value told key own)))

    went_empties : p.asked ≡ None → p.replies.key ≡ None → Own w p.own → GoesTo end
    went_empties asked out own =
        let d = rewritten w.memory (emptied p word) (block_in p.own) vacant m2 end (subst (λ plan. Steps Took value_at w.memory plan m2 end) (empties_this own out) s) in
        let was : d.0 ≡ node.Pair own.key own.value = (let there = pair_there own in cc (there, d.1)) in
        by_end (going (taken_back p own.key own.value) (at.Asks (asking.Fills word))) (subst (λ (x : Node K V). Ends' x end) was d.3)
        (went_rewritten same hash setting w c blocks map (block_in p.own) caller (node.Pair own.key own.value) vacant (ap w.hand (pair_block own) ∙ own.hand) (pair_there own) (λ e. cc e) refl refl m2 d.2
        (λ w2 c2 blocks2. Told w2 c2 blocks2 (going (taken_back p own.key own.value) (at.Asks (asking.Fills word))))
        (let back = is_out own in
        goes after (backed own) back.takes_is back.fits
        (inr (asked, record { block = own.block; number = own.number; word_is = own.word_is; hand = own.hand; there = now_vacant }, its_key own after (backed own) back.key_is)) (value, back.told word value told)))
      where
        Ends' : Node K V → KeyCall K V Q × Called (Node K V) → Type 0
        Ends' x e = Ends (value_at (with_value w.memory (block_in p.own) vacant)) (emptied p word (Taken x)) e

        after : World (Node K V)
        after = record w { memory = with_value w.memory (block_in p.own) vacant }

        now_vacant : value_at (with_value w.memory (block_in p.own) vacant) own.block ≡ Some vacant
        now_vacant =
            value_at-with_value w.memory (block_in p.own) vacant own.block (is_some_of _ _ (pair_there own))
            ∙ ap (λ q. if q then Some vacant else value_at w.memory own.block) (eq-eqb own.block (block_in p.own) (sym (pair_block own)))

    -- so it is after a step that fills its block
    pub went_fills : IsToFill same hash asks w caller setting c blocks keys Unchanged p → GoesTo end
    went_fills (inl its) = by (held its)
      where
        by : HasOwn same hash asks w caller setting c blocks keys Unchanged ByReply p.asked p.replies.key p.own p.hash → GoesTo end
        by (asked, inl (bare, key)) = went_makes asked key bare
        by (asked, inr (out, own)) = went_empties asked out own
    went_fills (inr (asked, own, key)) = went_rewrites asked key own

  -- and where its block is gone, and it may remove the pair of the word, after a step that gives it up
  module _ (Told : World (Node K V) → Chart K → Blocks → KeyCall K V Q × Called (Node K V) → Type 0)
      (removes : (v : World (Node K V)) (replies : Replies K V) → replies.takes ≡ p.replies.takes → RepliesFit replies → Its v (record p { replies = replies; own = 0 })
      → Told v c blocks (going (record p { replies = replies; own = 0 }) (at.Tries word TOMBSTONE))) where
    pub went_gives_up : p.asked ≡ None → Own w p.own → (m2 : Mem (Node K V)) (end : KeyCall K V Q × Called (Node K V)) → Steps Took value_at w.memory (gives_up p word) m2 end
        → StepSpec same hash setting caller w c blocks m2 (λ w2 c2 blocks2. Told w2 c2 blocks2 end)
    went_gives_up asked own m2 end s =
        let d = taken w.memory (given_up p word) (block_in p.own) m2 end s in
        let was : d.0 ≡ node.Pair own.key own.value = (let there = pair_there own in cc (there, d.1)) in
        let back = is_out own in
        subst (λ (e : KeyCall K V Q × Called (Node K V)). StepSpec same hash setting caller w c blocks m2 (λ w2 c2 blocks2. Told w2 c2 blocks2 e)) (sym (subst (λ (x : Node K V). Ends' x end) was d.3))
        (went_dropped same hash setting w c blocks map (block_in p.own) caller (node.Pair own.key own.value) (ap w.hand (pair_block own) ∙ own.hand) (pair_there own) (λ e. cc e) m2 d.2
        (λ w2 c2 blocks2. Told w2 c2 blocks2 (going (record p { replies = backed own; own = 0 }) (at.Tries word TOMBSTONE)))
        (removes after (backed own) back.takes_is back.fits its))
      where
        Ends' : Node K V → KeyCall K V Q × Called (Node K V) → Type 0
        Ends' x e = Ends (value_at (with_block w.memory (block_in p.own) None)) (given_up p word (Taken x)) e

        after : World (Node K V)
        after = world_dropped same hash setting w c blocks map (block_in p.own)

        its : Its after (record p { replies = backed own; own = 0 })
        its =
            let back = is_out own in
            subst (λ (x : Holding). HasOwn same hash asks after caller setting c blocks keys Unchanged x p.asked (backed own).key 0 p.hash)
            (sym (ap (λ (x : Takes). holding x p.missing) back.takes_is ∙ by_reply)) (asked, inl (refl, its_key own after (backed own) back.key_is))
