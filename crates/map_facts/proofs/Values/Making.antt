-- What a making of a table leaves of the blocks: the one that it makes is its own until it is linked, or taken away.
use Rattle.std.specs.Prelude.{◌≡◌, ℕ, ◌+◌, ◌*◌, ◌/◌, ◌%◌, ◌^◌, ◌<◌, Bool, true, false, cond, Result, Ok, Err, Some, nat_le, max, if◌then◌else◌}
use Rattle.std.proofs.Common.{refl, ap, sym, subst, ◌∙◌, inl, inr, arith}
use Rattle.map_rule.specs.Given.SeizeWordsDeclared.at.At.{At}
use Rattle.map_rule.specs.Given.SeizeWordsDeclared.at.At.TheVariants.{Root, Used, Slot, Entry, Word}
use Rattle.map_rule.specs.Given.SeizeWordsDeclared.fault.Fault.{Fault}
use Rattle.map_rule.specs.Given.SeizeWordsDeclared.fault.Fault.TheVariants.{Capacity}
use Rattle.map_rule.specs.Given.SeizeWordsMem.{Mem, Can, Took, value_at, word_at, with_word}
use Rattle.map_rule.specs.Given.SeizeWordsPlan.{Now, May, Steps}
use Rattle.map_rule.proofs.Given.SeizeWordsOneOwner.AfterWrites.{word_at-with_word}
use Rattle.map_rule.proofs.Given.SeizeWordsOneOwner.Operations.{stored, exchanged, taken, made as made_by_step}
use Rattle.papaya_raw.specs.Given.SeizeWorld.{World, Making}
use Rattle.papaya_raw.specs.Given.SeizeDeclared.advance.Advance.{Advance}
use Rattle.papaya_raw.specs.Given.SeizeDeclared.advance.Advance.TheVariants as progress
use Rattle.map_rule.proofs.Given.SeizeRuleRows.Leaving.{steps_back}
use Rattle.map_rule.proofs.Given.SeizeMemoryWords.Named.{same_at-refl}
use Rattle.papaya_raw.specs.Given.TablesNodes.{table_seen}
use Rattle.papaya_raw.specs.Given.TablesLengths.{next_limit, next_turn}
use Rattle.map_rule.specs.Given.ResizeNewTable.{planned, making_first, following, making_of, counted, with_block, after_making, made, other, linked, goes, done, plan_at, new_table_plan}
use Rattle.map_rule.specs.Given.ResizeSum.{sum_plan, plan_at as sum_plan_at}
use Rattle.papaya_raw.specs.Given.TablesDeclared.lengths.Reason.{Reason}
use Rattle.papaya_raw.specs.Given.TablesDeclared.node.Node.{Node}
use Rattle.papaya_raw.specs.Given.TablesDeclared.node.Node.TheVariants as node
use Rattle.papaya_raw.specs.Given.TablesDeclared.setting.Setting.{Setting}
use Rattle.papaya_raw.specs.Given.TablesDeclared.status.TheConstants.Status.{PROMOTED}
use Rattle.papaya_raw.specs.Given.TablesDeclared.table.Table.{Table}
use Rattle.papaya_raw.specs.Given.TablesDeclared.table_words.TheConstants.{STATUS, PLACES}
use Rattle.map_rule.specs.Given.ResizeDeclared.sum.Sum.{Sum}
use Rattle.map_rule.specs.Given.ResizeDeclared.sum.Summing.{Summing}
use Rattle.map_rule.specs.Given.ResizeDeclared.sum.Summing.TheVariants as sums
use Rattle.map_rule.specs.Given.ResizeDeclared.new_table.NewTable.{NewTable}
use Rattle.map_rule.specs.Given.ResizeDeclared.new_table.Making.{Making as Point}
use Rattle.map_rule.specs.Given.ResizeDeclared.new_table.Making.TheVariants as at
use Rattle.map_rule.specs.Chart.{Chart}
use Rattle.map_rule.specs.Words.{Blocks}
use Rattle.map_facts.specs.FactsTables.{IsOwnTable, IsLinkOf, MakingFacts, NewTableFacts, first_status}
use Rattle.map_facts.specs.Made.{IsMadeBy}
use Rattle.map_facts.proofs.Values.Kept.{IsPlainStep, plain_as, plain_keeps}
use Rattle.map_facts.proofs.Values.Left.{Leaves, leaves_same, leaves_made, leaves_taken}
use Rattle.map_rule.proofs.Given.General.{some_is as is_some_of}

-- it has made no table that it has not linked
abbrev pub MadeNone : Point → Type 0
MadeNone (at.Promotes table) = ⊥
MadeNone (at.Links table) = ⊥
MadeNone (at.Drops table found) = ⊥
MadeNone _ = Unit {0}

pub none_made : (stands : Point) → MadeNone stands → (b : ℕ) → IsMadeBy stands b → ⊥
none_made (at.Sums before reason sum) none b h = h
none_made (at.Makes table) none b h = h
none_made (at.Promotes table) none b h = none
none_made (at.Links table) none b h = none
none_made (at.Drops table found) none b h = none
none_made (at.Over table) none b h = h
none_made (at.Refused fault) none b h = h

none_if : (q : Bool) (x y : Point) → MadeNone x → MadeNone y → MadeNone (if q then x else y)
none_if true x y f g = f
none_if false x y f g = g

pub first_made_none : (len : ℕ) → MadeNone (making_first len)
first_made_none len = none_if (nat_le len (2 ^ 48)) _ _ tt tt

following_none : (reason : Reason) (before : Table) (len : ℕ) (turn : Result ℕ Fault) → MadeNone (following reason before len turn)
following_none reason before len (Ok turn) = none_if (nat_le len (2 ^ 48)) (at.Makes (planned len (next_limit reason before.len before.limit len) turn)) (at.Refused Capacity) tt tt
following_none reason before len (Err fault) = tt

pub next_made_none : (reason : Reason) (before : Table) (len : Result ℕ Fault) → MadeNone (making_of reason before len)
next_made_none reason before (Ok len) = following_none reason before (max len 8) (next_turn before.turn)
next_made_none reason before (Err fault) = tt

-- the block of the table that is left to be linked, after a step
abbrev pub MadeAfter : NewTable × Advance Table → ℕ → Type 0
MadeAfter (n, progress.Goes) b = IsMadeBy n.stands b
MadeAfter (n, progress.Waits) b = IsMadeBy n.stands b
MadeAfter (n, progress.Done table) b = ⊥
MadeAfter (n, progress.Refused fault) b = ⊥

module _ {K V : Type 0} (w : World (Node K V)) (caller : ℕ) (setting : Setting) (c : Chart K) (blocks : Blocks) (m2 : Mem (Node K V)) where
  -- a caller has linked its table: the word that was to link to it does
  abbrev pub IsLinkedNow : ℕ → Type 0
  IsLinkedNow b = (link : At) × (turn : ℕ) × IsLinkOf setting c blocks link turn × (w.hand b ≡ Making caller) × (0 < b) × (word_at m2 link ≡ Some (b * 2048))

  module _ (link : At) (turn : ℕ) (n : NewTable) (facts : NewTableFacts w caller setting c blocks link turn n) (end : NewTable × Advance Table) where
    abbrev Left : (ℕ → Type 0) → Type 0
    Left Mine = Leaves w.memory m2 Mine (MadeAfter end) IsLinkedNow

    plain_sum : (sum : Sum) (stands : Summing) → IsPlainStep {R = Sum × Advance ℕ} (sum_plan_at {T = Node K V} sum stands)
    plain_sum sum (sums.Adds shard total) = tt
    plain_sum sum (sums.Over count) = tt

    counted_none : (before : Table) (reason : Reason) (e : Sum × Advance ℕ) → end ≡ counted n before reason e → (b : ℕ) → MadeAfter end b → ⊥
    counted_none before reason e is b h = by e (subst (λ (x : NewTable × Advance Table). MadeAfter x b) is h)
      where
        by : (e : Sum × Advance ℕ) → MadeAfter (counted n before reason e) b → ⊥
        by (sum, progress.Goes) h = h
        by (sum, progress.Waits) h = h
        by (sum, progress.Done count) h = none_made _ (next_made_none reason before _) b h
        by (sum, progress.Refused fault) h = h

    made_there : (link : At) (table : Table) (b : ℕ) → IsMadeBy (after_making link table) b ≡ (b ≡ table.link / 2048)
    made_there (Root r) table b = refl
    made_there (Used r) table b = refl
    made_there (Slot s i) table b = refl
    made_there (Entry s i) table b = refl
    made_there (Word s i) table b = refl

    to_end : (e : NewTable × Advance Table) → end ≡ e → (b : ℕ) → MadeAfter e b → MadeAfter end b
    to_end e is b = subst (λ (x : NewTable × Advance Table). MadeAfter x b) (sym is)

    at_end : (e : NewTable × Advance Table) → end ≡ e → (b : ℕ) → MadeAfter end b → MadeAfter e b
    at_end e is b = subst (λ (x : NewTable × Advance Table). MadeAfter x b) is

    -- the word that was to link to it does
    now : (table : Table) (status : ℕ) → IsOwnTable w caller table status → (found : ℕ) → word_at w.memory n.link ≡ Some found → m2 ≡ with_word w.memory n.link table.link
        → (b : ℕ) → b ≡ table.link / 2048 → IsLinkedNow b
    now table status own found read is b e =
        let block : b ≡ own.block = (let l = own.link in omega (arith, l, e)) in (
          link,
          turn,
          facts.link_of,
          ap w.hand block ∙ own.hand,
          (let some = own.number.0 in omega (arith, block, some)),
          ap (λ (l : At). word_at m2 l) (sym facts.link_is) ∙ ap (λ (x : Mem (Node K V)). word_at x n.link) is
              ∙ word_at-with_word w.memory n.link table.link n.link (is_some_of _ _ read)
              ∙ ap (λ (q : Bool). cond q (Some table.link) (word_at w.memory n.link)) (same_at-refl n.link) ∙ ap Some own.link ∙ ap (λ (x : ℕ). Some (x * 2048)) (sym block),
        )

    number_of : (b : ℕ) → b < 2 ^ 53 → b * 2048 % 2 ^ 64 / 2048 ≡ b
    number_of b few = omega (arith, few)

    at_point : (stands : Point) → MakingFacts w caller setting c blocks link turn stands → May Can Took value_at w.memory (plan_at n stands)
        → Steps Took value_at w.memory (plan_at n stands) m2 end → Left (IsMadeBy stands)
    at_point (at.Sums before reason sum) f may s =
        let d = steps_back (counted n before reason) w.memory m2 (sum_plan sum) end s in
        leaves_same w.memory m2 (IsMadeBy (at.Sums before reason sum)) (MadeAfter end) IsLinkedNow
        (plain_keeps w.memory m2 (plan_at n (at.Sums before reason sum)) end (plain_as (counted n before reason) (sum_plan sum) (plain_sum sum sum.stands)) may s)
        (λ b h. absurd h) (λ b h. absurd (counted_none before reason d.0 d.2 b h))
    at_point (at.Makes table) f may s =
        elim (made_by_step w.memory (made n table) (node.Table table.len table.limit table.turn) ((table.len + PLACES) % 2 ^ 64) m2 end s) as (λ _. Left (IsMadeBy (at.Makes table))) [
          | inl (b, is, after, e) ↦
              (let own : (k : ℕ) → MadeAfter end k ≡ (k ≡ b) = λ k. ap (λ (x : NewTable × Advance Table). MadeAfter x k) e ∙ made_there n.link (with_block table b) k
              ∙ ap (λ (x : ℕ). k ≡ x) (number_of b is.1) in
              leaves_made w.memory m2 (IsMadeBy (at.Makes table)) (MadeAfter end) IsLinkedNow _ _ b is.0 after
              (subst (λ (x : Type 0). x) (sym (own b)) refl) (λ k h. h) (λ k h. subst (λ (x : Type 0). x) (own k) h))
          | inr (back, is, after, e) ↦
              leaves_same w.memory m2 (IsMadeBy (at.Makes table)) (MadeAfter end) IsLinkedNow (λ b. ap (λ (x : Mem (Node K V)). value_at x b) after)
              (λ b h. absurd h) (λ b h. subst (λ (x : NewTable × Advance Table). MadeAfter x b) e h)
        ]
    at_point (at.Promotes table) f may s =
        let d = stored w.memory (λ out. Now (goes n (at.Links table))) (Word (table.link / 2048) STATUS) PROMOTED m2 end s in
        leaves_same w.memory m2 (IsMadeBy (at.Promotes table)) (MadeAfter end) IsLinkedNow
        (plain_keeps w.memory m2 (plan_at n (at.Promotes table)) end tt may s)
        (λ b h. inl (to_end (goes n (at.Links table)) d.1 b h)) (λ b h. at_end (goes n (at.Links table)) d.1 b h)
    at_point (at.Links table) f may s =
        let same = plain_keeps w.memory m2 (plan_at n (at.Links table)) end tt may s in
        elim (exchanged w.memory (linked n table) n.link 0 table.link m2 end s) as (λ _. Left (IsMadeBy (at.Links table))) [
          | inl (found, is, after, e) ↦
              leaves_same w.memory m2 (IsMadeBy (at.Links table)) (MadeAfter end) IsLinkedNow same
              (λ b h. inr (now table (first_status link) f.0 found is.0 after b h)) (λ b h. absurd (at_end (done n table) e b h))
          | inr (found, is, after, e) ↦
              leaves_same w.memory m2 (IsMadeBy (at.Links table)) (MadeAfter end) IsLinkedNow same
              (λ b h. inl (to_end (goes n (at.Drops table found)) e b h)) (λ b h. at_end (goes n (at.Drops table found)) e b h)
        ]
    at_point (at.Drops table found) f may s =
        let d = taken w.memory (λ out. other n found) (table.link / 2048) m2 end s in
        leaves_taken w.memory m2 (IsMadeBy (at.Drops table found)) (MadeAfter end) IsLinkedNow (table.link / 2048) d.0 d.1 d.2 refl (λ b h. h)
        (λ b h. at_end (done n (table_seen found d.3.0)) d.3.2 b h)
    at_point (at.Over table) f may s =
        leaves_same w.memory m2 (IsMadeBy (at.Over table)) (MadeAfter end) IsLinkedNow (plain_keeps w.memory m2 (plan_at n (at.Over table)) end tt may s)
        (λ b h. absurd h) (λ b h. at_end (n, progress.Done table) s.1 b h)
    at_point (at.Refused fault) f may s =
        leaves_same w.memory m2 (IsMadeBy (at.Refused fault)) (MadeAfter end) IsLinkedNow (plain_keeps w.memory m2 (plan_at n (at.Refused fault)) end tt may s)
        (λ b h. absurd h) (λ b h. at_end (n, progress.Refused fault) s.1 b h)

    pub making_leaves : May Can Took value_at w.memory (new_table_plan n) → Steps Took value_at w.memory (new_table_plan n) m2 end → Left (IsMadeBy n.stands)
    making_leaves may s = at_point n.stands facts.point may s
