-- What a call that waits has seen in the memory is so in the tables that the memory shows.
use Rattle.std.proofs.Common.{◌≡◌, ◌≢◌, ℕ, suc, ◌<◌, ◌≤◌, ◌⊎◌, inl, inr, Bool, true, false, refl, ap, sym, subst, ◌∙◌, arith}
use Rattle.std.proofs.lemmas.Bool.{cases_lt}
use Rattle.seize_words.specs.OneMemory.Word.{block_in}
use Rattle.seize.specs.World.{World}
use Rattle.map_tables.specs.Chunks.{is_incremental}
use Rattle.map_tables.specs.Marks.{has_mark}
use Rattle.map_tables.specs.declared.marks.TheConstants.{COPYING, COPIED}
use Rattle.map_tables.specs.declared.node.Node.{Node}
use Rattle.map_tables.specs.declared.setting.Setting.{Setting}
use Rattle.map_tables.specs.declared.table.Table.{Table}
use Rattle.map_machines.specs.declared.copier.Copier.{Copier}
use Rattle.map_machines.specs.declared.copier.Copying.{Copying as Point}
use Rattle.map_machines.specs.declared.copier.Copying.TheVariants as at
use Rattle.many_calls.specs.Given.RuleChart.{Phase, Still, Copying, Copied, Place, Holds, Chart}
use Rattle.many_calls.specs.Given.RuleWords.{Blocks, byte_of, place_word}
use Rattle.many_calls.specs.Given.RuleRule.{Rule}
use Rattle.many_calls.specs.Given.RuleMaps.{spot_of, IsTable}
use Rattle.many_calls.specs.Given.RuleInWorld.{IsMapIn}
use Rattle.many_calls.proofs.Given.RuleWords.PlaceWordsMarks.{has_copying, pair_copied}
use Rattle.many_calls.proofs.Given.RuleWords.PlaceWordsRead.{word-pair}
use Rattle.many_calls.proofs.Given.RuleWords.TablesSeen.{place_there, status_there}
use Rattle.many_calls.specs.Given.PointsFactsCopies.{CopyingFacts, CopierFacts}
use Rattle.many_calls.specs.Given.PointsFactsCopiesBlocking.{CopyingFactsBlocking, CopierFactsBlocking}
use Rattle.many_calls.specs.Given.LateLateCopies.{SupersededCopying, SupersededCopierFacts}
use Rattle.map_measures.specs.Waits.Waits.{IsUnfinished, IsBeingCopied, CopierAwaits}
use Rattle.map_measures.proofs.Waits.Copiers.{SeesCopying, SeesPending, Sees}

-- a word with the one mark and not the other is that of a pair that is being copied
module _ {K : Type 0} (hash : K → ℕ) (c : Chart K) (blocks : Blocks) where
  pub copying_shown : (place : Place) (word : ℕ) → word ≡ place_word hash c blocks place → block_in word ≢ 0 → has_mark word COPYING ≡ true
      → has_mark word COPIED ≡ false
      → (n : ℕ) × (borrowed : Bool) × (place ≡ Holds n Copying borrowed)
  copying_shown place word is some copying copied =
      let pair = word-pair blocks.pair (λ o. byte_of hash (c.key o)) place (omega (arith, some, is)) in by pair.0 pair.1 pair.2 pair.3
    where
      by : (n : ℕ) (phase : Phase) (borrowed : Bool) → place ≡ Holds n phase borrowed → (n : ℕ) × (borrowed : Bool) × (place ≡ Holds n Copying borrowed)
      by n Copying borrowed e = (n, borrowed, e)
      by n Still borrowed e =
          absurd (let mark = ap (λ (x : ℕ). has_mark x COPYING) (is ∙ ap (place_word hash c blocks) e)
          ∙ has_copying blocks.pair (λ o. byte_of hash (c.key o)) (Holds n Still borrowed) in cc (mark, copying))
      by n Copied borrowed e =
          absurd (let mark = ap (λ (x : ℕ). has_mark x COPIED) (is ∙ ap (place_word hash c blocks) e)
          ∙ pair_copied blocks.pair (λ o. byte_of hash (c.key o)) n Copied borrowed in cc (mark, copied))

module _ {K V : Type 0} (same : K → K → Bool) (hash : K → ℕ) (w : World (Node K V)) (caller : ℕ) (setting : Setting) (c : Chart K) (blocks : Blocks)
    (map : IsMapIn same hash setting w c blocks)
    (p : Copier) where
  -- the status that was read
  pending_shown : (t : ℕ) → IsTable c blocks p.target t → SeesPending p w.memory → IsUnfinished c p.target.turn
  pending_shown t target (status, read, promoted, aborted) =
      let there = status_there hash w.memory c blocks setting.root map.map.shows p.target t target in
      let is : status ≡ c.status t = cc (read, there) in
      let turn : p.target.turn ≡ t = ap (λ (x : Table). x.turn) target.is in
      let here : status ≡ c.status p.target.turn = is ∙ ap c.status (sym turn) in ((λ e. promoted (here ∙ e)), (λ e. aborted (here ∙ e)))

  -- the word of its place that was read
  place_shown : (t : ℕ) → IsTable c blocks p.source t → p.place < c.len t → SeesCopying p w.memory → IsBeingCopied c p.source.turn p.place
  place_shown t source inside (word, read, mode, some, copying, copied) =
      let there = place_there hash w.memory c blocks setting.root map.map.shows p.source t source p.place inside in
      let is : word ≡ place_word hash c blocks (c.place t p.place) = cc (read, there) in
      let turn : p.source.turn ≡ t = ap (λ (x : Table). x.turn) source.is in
      copying_shown hash c blocks (c.place p.source.turn p.place) word
      (is ∙ ap (λ (x : ℕ). place_word hash c blocks (c.place x p.place)) (sym turn)) some copying copied

  -- in incremental mode, a table behind one with such a place is not promoted yet
  not_promoted : Rule same (spot_of hash) true c → (t : ℕ) → t ≤ c.first → p.place < c.len t → p.source.turn ≡ t → p.target.turn ≡ suc t
      → IsBeingCopied c p.source.turn p.place → IsUnfinished c p.target.turn
  not_promoted rule t upto inside source target (n, borrowed, stands) = by (cases_lt t c.first)
    where
      here : c.place t p.place ≡ Holds n Copying borrowed
      here = ap (λ (x : ℕ). c.place x p.place) (sym source) ∙ stands

      by : (t < c.first) ⊎ (c.first ≤ t) → IsUnfinished c p.target.turn
      by (inl l) = absurd (let settled = rule.in_mode.settled t p.place l inside in cc (settled, here))
      by (inr l) = (rule.common.pending p.target.turn (omega (arith, l, target)), rule.in_mode.never_aborted p.target.turn)

  -- in incremental mode
  shown_at : Rule same (spot_of hash) true c → (stands : Point) → CopyingFacts same hash w caller setting c blocks p stands → Sees p w.memory stands
      → CopierAwaits c true p stands
  shown_at rule at.Marks f (whole, sees) =
      let copied = place_shown f.0 f.1.0 f.4.0 sees in (
        refl,
        copied,
        not_promoted rule f.0 f.1.2 f.4.0 (ap (λ (x : Table). x.turn) f.1.0.is) (ap (λ (x : Table). x.turn) f.1.1.is) copied,
      )
  shown_at rule at.Asks f (spent, sees) = (spent, pending_shown (suc f.0) f.1.1 sees)
  shown_at rule _ f sees = absurd sees

  pub copier_shown : is_incremental setting.mode ≡ true → CopierFacts same hash w caller setting c blocks p → Sees p w.memory p.stands
      → CopierAwaits c true p p.stands
  copier_shown mode f sees = shown_at (subst (λ (b : Bool). Rule same (spot_of hash) b c) mode map.map.rule) p.stands f.point sees

  -- in blocking mode, each caller copies what it claims, and waits for the status alone
  module _ (mode : is_incremental p.setting.mode ≡ false) where
    no_place : SeesCopying p w.memory → ⊥
    no_place sees = let bits = sees.2 in cc (mode, bits)

    blocking_at : (stands : Point) → CopyingFactsBlocking same hash w caller setting c blocks p stands → Sees p w.memory stands → CopierAwaits c false p stands
    blocking_at at.Marks f (whole, sees) = absurd (no_place sees)
    blocking_at at.Asks f (spent, sees) = (spent, pending_shown f.0 f.1.0.2 sees)
    blocking_at _ f sees = absurd sees

    pub copier_shown_blocking : CopierFactsBlocking same hash w caller setting c blocks p → Sees p w.memory p.stands → CopierAwaits c false p p.stands
    copier_shown_blocking f sees = blocking_at p.stands f.point sees

    late_at : (began : ℕ) (stands : Point) → SupersededCopying same hash w caller setting c blocks began p stands → Sees p w.memory stands
        → CopierAwaits c false p stands
    late_at began at.Marks f (whole, sees) = absurd (no_place sees)
    late_at began at.Asks f (spent, sees) = (spent, pending_shown f.1 f.2.target sees)
    late_at began _ f sees = absurd sees

    pub copier_shown_late : (began : ℕ) → SupersededCopierFacts same hash w caller setting c blocks began p → Sees p w.memory p.stands
        → CopierAwaits c false p p.stands
    copier_shown_late began f sees = late_at began p.stands f.point sees
