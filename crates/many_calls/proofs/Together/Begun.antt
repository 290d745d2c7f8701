-- A caller whose call stands at a row of the collector begins it: all others stand, and the caller is within the row.
use Rattle.seize_model.specs.Given.SeizeWordsMem.{Mem, value_at}
use Rattle.std.specs.Prelude.{◌≡◌, ◌≢◌, ℕ, ◌*◌, ◌<◌, Bool, true, Option, Some, None}
use Rattle.std.proofs.Common.{false, refl, ap, sym, subst, ◌∙◌, inl, inr}
use Rattle.std.proofs.lemmas.Bool.{cases_eq}
use Rattle.seize_model.specs.Given.SeizeDeclared.rows.settle.Settle.{Settle}
use Rattle.seize_model.specs.Given.SeizeLaw.{holds, owner_of}
use Rattle.seize_model.specs.Given.SeizeSettle.{retiring}
use Rattle.seize_model.specs.Given.SeizeWorld.{World, Row, Use, one_more, Rests, Settles, Cutting, Begin, Request, Retire, Begins, Happens, IsInside, IsOnto, with_at}
use Rattle.seize_model.proofs.Given.SeizeRuleRows.Leaving.{with_same}
use Rattle.seize_model.proofs.Given.SeizeRuleRows.Others.{with_here, with_other}
use Rattle.map_facts_late.specs.Given.TablesNodes.{deferred_word}
use Rattle.map_facts_late.specs.Given.TablesDeclared.node.Node.{Node}
use Rattle.map_facts_late.specs.Given.TablesDeclared.setting.Setting.{Setting}
use Rattle.map_facts_late.specs.Given.RuleChart.{Chart}
use Rattle.map_facts_late.specs.Given.RuleWords.{Blocks}
use Rattle.map_facts_late.specs.Given.RuleInWorld.{IsHeldBy}
use Rattle.map_facts_late.specs.Given.PointsFactsDisposes.{IsToRetire}
use Rattle.map_facts_late.specs.Given.PointsSteps.{AreLawful}
use Rattle.many_calls.specs.Rows.{IsRowOn, IsUsedAlike}
use Rattle.many_calls.specs.Sights.{Visible, seen_by}
use Rattle.many_calls.specs.Together.{ClaimsInto, Ground, UnderWay, HasCall, PutsWithin, in_slot, HandsOver, Together, IsAtPoint, IsReclaimed}
use Rattle.many_calls.proofs.Rows.Retired.{retire_in}
use Rattle.many_calls.proofs.Rows.Retires.{counter_no_table}
use Rattle.many_calls.proofs.Together.Came.{came_next}
use Rattle.many_calls.proofs.Together.Handed as handed
use Rattle.many_calls.proofs.Together.Few.{few_with}
use Rattle.many_calls.proofs.Together.Fits.{unless_so, Fits, fits_some, stands_by}
use Rattle.many_calls.proofs.Together.RetiresBlocking.{handed_over}
use Rattle.many_calls.proofs.Together.Slots.{alike_more, alike_at}
use Rattle.seize_model.proofs.Given.SeizeRuleWorld.Begins.{inside_taken}

module _ {K V Q : Type 0} (same : K → K → Bool) (hash : K → ℕ) (asks : Q → K → Bool) (setting : Setting) (slot : ℕ → ℕ) (lawful : AreLawful same hash)
    (w : World (Node K V)) (c : Chart K) (blocks : Blocks) (sights : ℕ → Visible) (calls : ℕ → Option (UnderWay K V Q)) (s : Together V same hash asks setting slot w c blocks sights calls)
    (i : ℕ) (inside : IsInside (w.uses (slot i))) (rests : w.row i ≡ Rests) where
  -- the caller has begun this row
  pub record RowBegun (row : Row) : Type 0 where
    pub v : World (Node K V)
    pub memory : v.memory ≡ w.memory
    pub unheld : (t x : ℕ) → holds t x v.log ≡ false → holds t x w.log ≡ false
    pub request : Request
    pub hands : HandsOver setting i w request
    pub happened : Happens deferred_word setting.batch_size (Begin i request) w v
    pub ground : Ground V same hash asks setting slot v c blocks sights
    pub others : (j : ℕ) → j ≢ i → Fits same hash asks setting slot v c blocks (sights (slot j)) j (calls j)
    pub now_inside : IsInside (v.uses (slot i))
    pub rows : (j : ℕ) → j ≢ i → v.row j ≡ w.row j
    pub row_is : v.row i ≡ row
    pub alike : (t : ℕ) → IsUsedAlike (w.uses t) (v.uses t)
    pub on_slot : IsRowOn (slot i) (v.row i)

  -- a block is retired
  abbrev pub row_then : ℕ → ℕ → Row
  row_then b = with_at w.row i (Settles (retiring (slot i) setting.batch_size (b * 2048)))

  abbrev pub uses_then : ℕ → Use
  uses_then = with_at w.uses (slot i) (one_more (w.uses (slot i)))

  abbrev pub retired : ℕ → World (Node K V)
  retired b = handed_over w b (row_then b) uses_then

  module _ (b : ℕ) (cut : w.hand b ≡ Cutting i) (here : holds (slot i) b w.log ≡ true) (other : setting.counter ≢ b) (own : owner_of b w.log ≡ setting.counter) where
    pub retire_begins : Begins deferred_word setting.batch_size i (Retire (slot i) b) w (retired b)
    retire_begins = (inside_taken (w.uses (slot i)) inside, (i, cut), refl)

    pub its : IsHeldBy i (w.hand b)
    its = subst (IsHeldBy i) (sym cut) refl

    abbrev pub retires : (row : Row) → Settles (retiring (slot i) setting.batch_size (b * 2048)) ≡ row → RowBegun row
    retires row is =
        let map = retire_in same hash setting w c blocks s.ground.map i (slot i) b (retired b) retire_begins in
        let came = came_next setting.batch_size w (retired b) (Begin i (Retire (slot i) b)) s.ground.came (rests, retire_begins) in
        record {
          v = retired b;
          memory = refl;
          unheld = λ t y e. e;
          request = Retire (slot i) b;
          hands = (own, its);
          happened = (rests, retire_begins);
          ground = handed.ground_begun same hash asks setting slot lawful w c blocks sights calls s i inside b _ w.log its other here (λ y ne. refl) (λ t y h. h) (λ y. refl) (λ t l made at. s.ground.behind t b l made at) came map;
          others = handed.others_begun same hash asks setting slot lawful w c blocks sights calls s i inside b _ w.log its other here (λ y ne. refl) (λ t y h. h) (λ y. refl) (λ t l made at. s.ground.behind t b l made at) came map;
          now_inside = handed.inside_on w.uses (slot i) (slot i) inside;
          rows = λ j ne. with_other w.row i j (Settles (retiring (slot i) setting.batch_size (b * 2048))) ne;
          row_is = with_here w.row i (Settles (retiring (slot i) setting.batch_size (b * 2048))) ∙ is;
          alike = alike_at w.uses (slot i) (one_more (w.uses (slot i))) (alike_more (w.uses (slot i)));
          on_slot = subst (IsRowOn (slot i)) (sym (with_here w.row i (Settles (retiring (slot i) setting.batch_size (b * 2048))))) refl;
        }

  -- a table is retired that its section sees
  abbrev pub table_retires : (t : ℕ) → t < c.past → (sights (slot i)).tables t ≡ true → (settle : Settle) → IsToRetire w i (in_slot setting (slot i)) settle (blocks.table t) → (row : Row) → Settles settle ≡ row → RowBegun row
  table_retires t made seen settle to_retire row is =
      let sight = s.ground.sight (slot i) inside in
      retires (blocks.table t) to_retire.1 (sight.1.tables t made seen) (counter_no_table same hash setting w c blocks s.ground.map t made (sight.0.tables t made seen))
      (s.ground.owned.tables t made (sight.0.tables t made seen)) row (ap Settles (sym to_retire.0) ∙ is)

  -- the caller has a call, and the rows of all others are as they were
  module _ (row : Row) (b : RowBegun row) (x : UnderWay K V Q) (has : calls i ≡ Some x) where
    begun_puts : PutsWithin calls b.v c blocks
    begun_puts t j l made on = elim (cases_eq j i) as (λ _. HasCall calls j) [
      | inl e ↦ λ none. (let at : calls i ≡ None = ap calls (sym e) ∙ none in cc (has, at))
      | inr ne ↦ s.onto t j l made (subst (IsOnto (blocks.table t)) (b.rows j ne) on)
    ]

    -- and so all calls stand together, if it does
    pub begun_stands : IsAtPoint V same hash asks setting slot b.v c (seen_by blocks (sights (slot i))) i x → ((t : ℕ) → ClaimsInto t x → ⊥) → Together V same hash asks setting slot b.v c blocks sights calls
    begun_stands stands claims =
        subst (Together V same hash asks setting slot b.v c blocks sights) (ap (with_at calls i) (sym has) ∙ with_same calls i)
        (stands_by same hash asks setting slot b.v c blocks sights calls i (Some x) b.ground
        (fits_some same hash asks setting slot b.v c blocks (sights (slot i)) i x (unless_so x b.now_inside) stands) b.others
        (λ blocking. few_with calls i c (s.few blocking) x (λ writes. (x, has, writes)) claims) begun_puts (λ none. absurd (cc none)))

  -- what is given back in a step after it was in a block that no open section held before it
  pub begun_gives : (row : Row) (b : RowBegun row) (w2 : World (Node K V)) (value : Node K V) → IsReclaimed b.v w2 value → IsReclaimed w w2 value
  begun_gives row b w2 value (x, is, none, hand, gone) = (x, subst (λ (m : Mem (Node K V)). value_at m x ≡ Some value) b.memory is, λ t. b.unheld t x (none t), hand, gone)
