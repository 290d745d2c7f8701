-- A call that stands at a row of the collector begins it: all calls stand together, and the caller is within the row.
use Rattle.seize_model.specs.Given.SeizeWordsMem.{Mem}
use Rattle.many_calls.specs.Asked.{Asked, RemembersReplies}
use Rattle.many_calls.specs.AskedOnce.{AskedAt}
use Rattle.many_calls.proofs.Once.Stays.{once_as}
use Rattle.many_calls.specs.Pairs.{KeepsIt, KeepsGiven}
use Rattle.many_calls.proofs.Since.Given.{given_as}
use Rattle.map_facts_late.specs.Faults.{RoomInCopying}
use Rattle.map_facts_late.specs.Kinds.{FitsAt}
use Rattle.many_calls.specs.Kind.{Kind}
use Rattle.std.specs.Prelude.{◌≡◌, ℕ, ◌<◌, ◌==◌, Bool, true, List, Option, Some, if◌then◌else◌}
use Rattle.std.proofs.Common.{false, refl, sym, subst, inl, inr, arith}
use Rattle.seize_model.specs.Given.SeizeDeclared.rows.settle.Settle.{Settle}
use Rattle.seize_model.specs.Given.SeizeWorld.{World, Row, Use, Rests, Settles, IsInside}
use Rattle.map_facts_late.specs.Given.TablesDeclared.node.Node.{Node}
use Rattle.map_facts_late.specs.Given.TablesDeclared.setting.Setting.{Setting}
use Rattle.map_facts_late.specs.Given.TablesDeclared.table.Table.{Table}
use Rattle.map_facts_late.specs.Given.ResizeCopierPromotes.{table_retired}
use Rattle.map_facts_late.specs.Given.ResizeDispose as dispose
use Rattle.map_facts_late.specs.Given.ResizeCopierStates as copiers
use Rattle.map_facts_late.specs.Given.ResizeDeclared.copier.Copier.{Copier}
use Rattle.map_facts_late.specs.Given.ResizeDeclared.copier.Copying.{Copying}
use Rattle.map_facts_late.specs.Given.ResizeDeclared.copier.Copying.TheVariants as copies
use Rattle.map_facts_late.specs.Given.ResizeDeclared.dispose.Dispose.{Dispose}
use Rattle.map_facts_late.specs.Given.ResizeDeclared.dispose.Disposing.{Disposing}
use Rattle.map_facts_late.specs.Given.ResizeDeclared.dispose.Disposing.TheVariants as disposes
use Rattle.map_facts_late.specs.Given.RawCallPoints as points
use Rattle.map_facts_late.specs.Given.RawDeclared.machines.answer.KeyAnswer.{KeyAnswer}
use Rattle.map_facts_late.specs.Given.RawDeclared.machines.call.Calling.{Calling}
use Rattle.map_facts_late.specs.Given.RawDeclared.machines.call.Calling.TheVariants as at
use Rattle.map_facts_late.specs.Given.RuleChart.{Chart}
use Rattle.map_facts_late.specs.Given.RuleWords.{Blocks}
use Rattle.map_facts_late.specs.Given.RuleInWorld.{IsMapIn}
use Rattle.map_facts_late.specs.Given.PointsFactsDisposes.{IsToRetire}
use Rattle.map_facts_late.specs.Given.PointsTold.{IsRowOf, IsRowOfCopier, IsRowOfCall}
use Rattle.map_facts_late.specs.Given.PointsSteps.{AreLawful}
use Rattle.many_calls.specs.Rows.{row_of, past_row}
use Rattle.many_calls.specs.Sights.{Visible, seen_by}
use Rattle.many_calls.specs.Together.{OnKey, CallOnKey, UnderWay, in_slot, Knows, Together}
use Rattle.many_calls.proofs.Together.Begun as rows
use Rattle.many_calls.proofs.Together.Begun.{RowBegun}
use Rattle.many_calls.proofs.Together.Disposals.{disposal_begins}
use Rattle.many_calls.proofs.Together.Few.{row_claims_none}
use Rattle.many_calls.proofs.Together.Fits.{map_in_slot}
use Rattle.many_calls.proofs.Together.RowsOfCopiers.{at_retirement}
use Rattle.many_calls.proofs.Together.RetiresBlocking.{its_own_on, retires_table}
use Rattle.many_calls.proofs.Together.FactsOn.{disposes_fresh, helps_fresh}
use Rattle.many_calls.proofs.Sights.Seen.{map_seen}

-- a copier whose table is retired is refused nothing
retired_room : (p : Copier) (rest : ℕ) → RoomInCopying (table_retired p rest).stands
retired_room p rest = by (rest == 0)
  where
    by : (b : Bool) → RoomInCopying (if b then copiers.standing p copies.Over else copiers.standing p (copies.Succeeds rest)).stands
    by true = tt
    by false = tt

module _ {K V Q : Type 0} (same : K → K → Bool) (hash : K → ℕ) (asks : Q → K → Bool) (setting : Setting) (slot : ℕ → ℕ) (lawful : AreLawful same hash)
    (w : World (Node K V)) (c : Chart K) (blocks : Blocks) (sights : ℕ → Visible) (calls : ℕ → Option (UnderWay K V Q)) (s : Together V same hash asks setting slot w c blocks sights calls)
    (i : ℕ) (u : CallOnKey K V Q) (inside : IsInside (w.uses (slot i))) (rests : w.row i ≡ Rests) where
  -- the pair that it was begun with, where it goes on from a row
  row_pair : (x x2 : Calling)
      → ((pair : Option (Node K V)) → KeepsIt w.memory c (seen_by blocks (sights (slot i))) pair u.change (points.standing u.call x) x
      → KeepsIt w.memory c (seen_by blocks (sights (slot i))) pair u.change (points.standing u.call x2) x2)
      → ((its : Option K) (asked : List (Asked V)) → RemembersReplies hash w.memory c (seen_by blocks (sights (slot i))) its asked u.change (points.standing u.call x) x
      → RemembersReplies hash w.memory c (seen_by blocks (sights (slot i))) its asked u.change (points.standing u.call x2) x2)
      → ((asked : List (Asked V)) → AskedAt hash c (seen_by blocks (sights (slot i))) u.keys asked u.call.replies x → AskedAt hash c (seen_by blocks (sights (slot i))) u.keys asked u.call.replies x2)
      → ((kind : Kind) → FitsAt kind.present kind.absent kind.takes x → FitsAt kind.present kind.absent kind.takes x2)
      → KeepsGiven hash w.memory c (seen_by blocks (sights (slot i))) u.keys u.pair u.change (points.standing u.call x) x
      → KeepsGiven hash w.memory c (seen_by blocks (sights (slot i))) u.keys u.pair u.change (points.standing u.call x2) x2
  row_pair x x2 keeps tells once fits =
      given_as hash u.keys w.memory w.memory c c (seen_by blocks (sights (slot i))) (seen_by blocks (sights (slot i))) u.pair u.change u.change (points.standing u.call x) (points.standing u.call x2) x x2
      (λ never. never) (λ pair never. keeps pair)
      (λ key asked h. (tells key asked h.0, once_as hash c c (seen_by blocks (sights (slot i))) (seen_by blocks (sights (slot i))) u.keys asked key u.call.replies u.call.replies x x2 (once asked) h.1)) (λ kind fit. (fit.0, fit.1, fit.2, fit.3, fits kind fit.4))

  -- the row has begun at which a call stands
  pub record Begun (x : Calling) : Type 0 where
    pub row : RowBegun same hash asks setting slot lawful w c blocks sights calls s i inside rests (row_of (slot i) x)
    pub knows : Knows V same hash asks setting slot row.v c (seen_by blocks (sights (slot i))) i u (points.standing u.call (past_row x))

  abbrev row_then : ℕ → ℕ → Row
  row_then = rows.row_then same hash asks setting slot lawful w c blocks sights calls s i inside rests

  abbrev uses_then : ℕ → Use
  uses_then = rows.uses_then same hash asks setting slot lawful w c blocks sights calls s i inside rests

  abbrev retired : ℕ → World (Node K V)
  retired = rows.retired same hash asks setting slot lawful w c blocks sights calls s i inside rests

  -- a table is retired that its section sees
  table_retires : (x : Calling) (t : ℕ) → t < c.past → (sights (slot i)).tables t ≡ true → (settle : Settle) → IsToRetire w i (in_slot setting (slot i)) settle (blocks.table t) → Settles settle ≡ row_of (slot i) x
      → Knows V same hash asks setting slot (retired (blocks.table t)) c (seen_by blocks (sights (slot i))) i u (points.standing u.call (past_row x)) → Begun x
  table_retires x t made seen settle its is k =
      record { row = rows.table_retires same hash asks setting slot lawful w c blocks sights calls s i inside rests t made seen settle its (row_of (slot i) x) is; knows = k }

  -- the map, as it looks at it
  seen_map : IsMapIn same hash (in_slot setting (slot i)) w c (seen_by blocks (sights (slot i)))
  seen_map = map_seen same hash (in_slot setting (slot i)) w c blocks (sights (slot i)) (map_in_slot same hash setting w c blocks (slot i) s.ground.map) (s.ground.sight (slot i) inside).0

  -- a disposal that stands at its row
  module _ (d : Dispose) (answer : KeyAnswer) where
    -- what it knows of the disposal once that is over
    once_disposed : {v : World (Node K V)} (x : Disposing) → v.memory ≡ w.memory → Knows V same hash asks setting slot w c (seen_by blocks (sights (slot i))) i u (points.standing u.call (at.Disposes (dispose.standing d x) answer))
        → Knows V same hash asks setting slot v c (seen_by blocks (sights (slot i))) i u (points.standing u.call (at.Disposes (dispose.standing d disposes.Over) answer))
    once_disposed x same_memory k =
        let all = disposes_fresh same hash asks (in_slot setting (slot i)) i w c (seen_by blocks (sights (slot i))) u.keys u.began u.change u.call (dispose.standing d x) answer k.facts in
        let f = all.point.0 in
        record {
          facts = inl (record {
            setting_is = all.setting_is;
            may = all.may;
            code = all.code;
            class = all.class;
            unchanged = λ none. absurd none;
            idle = all.idle;
            point = (record { setting_is = f.setting_is; n = f.n; t = f.t; left = f.left; pair_is = f.pair_is; table = f.table; point = tt }, all.point.1);
          });
          since = record { began_before = k.since.began_before; changed = k.since.changed; answered = λ none it has. absurd has };
          none = k.none;
          pair = subst (λ (m : Mem (Node K V)).
              KeepsGiven hash m c (seen_by blocks (sights (slot i))) u.keys u.pair u.change (points.standing u.call (at.Disposes (dispose.standing d disposes.Over) answer)) (at.Disposes (dispose.standing d disposes.Over) answer)) (sym same_memory)
              (row_pair (at.Disposes (dispose.standing d x) answer) (at.Disposes (dispose.standing d disposes.Over) answer) (λ pair h. h) (λ its asked h. h) (λ asked h. h) (λ kind fit. fit) k.pair);
        }

    by_disposal : (x : Disposing) → IsRowOf x → Knows V same hash asks setting slot w c (seen_by blocks (sights (slot i))) i u (points.standing u.call (at.Disposes (dispose.standing d x) answer))
        → Begun (at.Disposes (dispose.standing d x) answer)
    by_disposal x is_row k =
        let f = (disposes_fresh same hash asks (in_slot setting (slot i)) i w c (seen_by blocks (sights (slot i))) u.keys u.began u.change u.call (dispose.standing d x) answer k.facts).point.0 in
        let row = disposal_begins same hash asks setting slot lawful w c blocks sights calls s i inside rests d x is_row f (row_of (slot i) (at.Disposes (dispose.standing d x) answer)) refl in
        record { row = row; knows = once_disposed x row.memory k }

  -- a copier that helps stands at the retirement of the table that it copied
  module _ (p : Copier) (goal : Table) where
    abbrev helps : Copier → Calling
    helps q = at.Helps q goal

    by_help : (x : Copying) → IsRowOfCopier x → Knows V same hash asks setting slot w c (seen_by blocks (sights (slot i))) i u (points.standing u.call (helps (copiers.standing p x))) → Begun (helps (copiers.standing p x))
    by_help = at_retirement (λ x. Knows V same hash asks setting slot w c (seen_by blocks (sights (slot i))) i u (points.standing u.call (helps (copiers.standing p x))) → Begun (helps (copiers.standing p x))) (λ settle rest k.
        let all = helps_fresh same hash asks (in_slot setting (slot i)) i w c (seen_by blocks (sights (slot i))) u.keys u.began u.change u.call (copiers.standing p (copies.Retires settle rest)) goal k.facts in
        let h = all.point in
        let f = h.6.point in
        let made : f.0 < c.past = (let m = h.4.made in let r = s.ground.map.map.rule.common.rooted (omega (arith, m)) in let l = f.1 in omega (arith, l, r)) in
        table_retires (helps (copiers.standing p (copies.Retires settle rest))) f.0 made f.6 settle f.2 refl
        (subst (λ (r : ℕ). Knows V same hash asks setting slot (retired (blocks.table f.0)) c (seen_by blocks (sights (slot i))) i u (points.standing u.call (helps (table_retired (copiers.standing p (copies.Retires settle rest)) r)))) (sym f.3)
        (record {
          facts = inl (record {
            setting_is = all.setting_is;
            may = all.may;
            code = all.code;
            class = all.class;
            unchanged = all.unchanged;
            idle = λ none. absurd (none tt);
            point = (
              its_own_on same hash asks w i (in_slot setting (slot i)) c (seen_by blocks (sights (slot i))) u.keys u.change (blocks.table f.0) f.2.1 (row_then (blocks.table f.0)) uses_then
                  u.call h.0,
              h.1,
              h.2,
              h.3,
              h.4,
              h.5,
              record { setting_is = h.6.setting_is; point = (f.4, f.5) },
            );
          });
          since = record { began_before = k.since.began_before; changed = k.since.changed; answered = λ none it has. absurd has };
          none = k.none;
          pair = row_pair (helps (copiers.standing p (copies.Retires settle rest))) _ (λ pair h. h) (λ its asked h. h) (λ asked h. h) (λ kind fit. (fit.0, retired_room (copiers.standing p (copies.Retires settle rest)) 0)) k.pair;
        })))

  -- one that copies a whole table stands at the retirement of that, or of one behind it
  module _ (p : Copier) where
    by_copier : (x : Copying) → IsRowOfCopier x → Knows V same hash asks setting slot w c (seen_by blocks (sights (slot i))) i u (points.standing u.call (at.Copies (copiers.standing p x))) → Begun (at.Copies (copiers.standing p x))
    by_copier = at_retirement (λ x. Knows V same hash asks setting slot w c (seen_by blocks (sights (slot i))) i u (points.standing u.call (at.Copies (copiers.standing p x))) → Begun (at.Copies (copiers.standing p x))) (λ settle rest k.
        let r = retires_table same hash (in_slot setting (slot i)) w c (seen_by blocks (sights (slot i))) seen_map i asks u.keys u.began u.change u.call p settle rest k.facts in
        table_retires (at.Copies (copiers.standing p (copies.Retires settle rest))) r.t r.made r.known settle r.its refl
        (record {
          facts = r.knows (row_then (blocks.table r.t)) uses_then;
          since = record { began_before = k.since.began_before; changed = k.since.changed; answered = λ none it has. absurd has };
          none = k.none;
          pair = row_pair (at.Copies (copiers.standing p (copies.Retires settle rest))) _ (λ pair h. h) (λ its asked h. h) (λ asked h. h) (λ kind fit. (fit.0, retired_room (copiers.standing p (copies.Retires settle rest)) rest)) k.pair;
        }))

  begins_at : (x : Calling) → IsRowOfCall x → Knows V same hash asks setting slot w c (seen_by blocks (sights (slot i))) i u (points.standing u.call x) → Begun x
  begins_at (at.Disposes d answer) row k = by_disposal d answer d.stands row k
  begins_at (at.Helps p goal) row k = by_help p goal p.stands row k
  begins_at (at.Copies p) row k = by_copier p p.stands row k
  begins_at at.Makes row k = absurd row
  begins_at (at.Looks l) row k = absurd row
  begins_at at.Roots row k = absurd row
  begins_at at.Probes row k = absurd row
  begins_at (at.Tries word new) row k = absurd row
  begins_at (at.Counts removed) row k = absurd row
  begins_at at.Nexts row k = absurd row
  begins_at (at.Firsts making) row k = absurd row
  begins_at (at.Allocs making) row k = absurd row
  begins_at (at.Asks asking) row k = absurd row
  begins_at (at.Drops end) row k = absurd row
  begins_at (at.Over end) row k = absurd row

  -- all calls stand together then
  module _ (has : calls i ≡ Some (OnKey u)) (is_row : IsRowOfCall u.call.stands) (k : Knows V same hash asks setting slot w c (seen_by blocks (sights (slot i))) i u u.call) where
    pub begun_row : Begun u.call.stands
    begun_row = begins_at u.call.stands is_row k

    pub begun_together : Together V same hash asks setting slot begun_row.row.v c blocks sights calls
    begun_together =
        rows.begun_stands same hash asks setting slot lawful w c blocks sights calls s i inside rests (row_of (slot i) u.call.stands) begun_row.row (OnKey u) has
        (inr (begun_row.row.row_is, is_row, begun_row.knows)) (row_claims_none u.call.stands is_row)
