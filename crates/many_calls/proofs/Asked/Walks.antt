-- A step of a call that asks, where it seeks: it goes on by what it remembers of its replies, or changes the map.
use Rattle.std.specs.Prelude.{◌≡◌, ◌≢◌, ℕ, ◌==◌, Bool, true, false, Option, Some, None, Err, ◌⊎◌}
use Rattle.std.proofs.Common.{refl, sym, subst, inl, inr}
use Rattle.seize_model.specs.Given.SeizeWordsDeclared.at.At.TheVariants.{Root}
use Rattle.seize_model.specs.Given.SeizeWordsOp.{Found, Exchanged}
use Rattle.seize_model.specs.Given.SeizeWordsMem.{Mem, Took, value_at, word_at}
use Rattle.seize_model.specs.Given.SeizeWordsPlan.{Steps}
use Rattle.seize_model.proofs.Given.SeizeWordsOneOwner.Operations.{loaded, exchanged}
use Rattle.seize_model.proofs.Given.SeizeRuleRows.Leaving.{steps_back}
use Rattle.map_facts_late.specs.Given.RawCall.{root_found, next_found, word_found, tried, first_made, next_made, helped, copied, plan_at}
use Rattle.map_facts_late.specs.Given.RawCallPoints.{changed}
use Rattle.map_facts_late.specs.Given.ResizeCopier.{copier_plan}
use Rattle.map_facts_late.specs.Given.ResizeNewTable.{new_table_plan}
use Rattle.map_facts_late.specs.Given.TablesTablePlaces.{at_word}
use Rattle.map_facts_late.specs.Given.TablesTrials.{place_tried}
use Rattle.map_facts_late.specs.Given.TablesDeclared.node.Node.{Node}
use Rattle.map_facts_late.specs.Given.TablesDeclared.table_words.TheConstants.{NEXT}
use Rattle.map_facts_late.specs.Given.RawDeclared.machines.answer.Called.{Called}
use Rattle.map_facts_late.specs.Given.RawDeclared.machines.answer.Called.TheVariants.{Asks}
use Rattle.map_facts_late.specs.Given.RawDeclared.machines.answer.Missing.{Missing}
use Rattle.map_facts_late.specs.Given.RawDeclared.machines.answer.There.{There}
use Rattle.map_facts_late.specs.Given.RawDeclared.machines.asking.Asking.TheVariants as asking
use Rattle.map_facts_late.specs.Given.RawDeclared.machines.asking.Takes.{Takes}
use Rattle.map_facts_late.specs.Given.RawDeclared.machines.asking.Takes.TheVariants as takes
use Rattle.map_facts_late.specs.Given.RawDeclared.machines.call.KeyCall.{KeyCall}
use Rattle.map_facts_late.specs.Given.RawDeclared.machines.call.Calling.{Calling}
use Rattle.map_facts_late.specs.Given.RawDeclared.machines.call.Calling.TheVariants as at
use Rattle.map_facts_late.specs.Faults.{RoomInMaking, RoomInCopying}
use Rattle.map_facts_late.specs.Kinds.{FitsAt}
use Rattle.map_facts_late.proofs.KindsKept.Rooms.Copying.{copier_rooms}
use Rattle.map_facts_late.proofs.KindsKept.Rooms.Making.{new_table_rooms}
use Rattle.map_facts_late.specs.Given.PointsFactsCalls.{MayStore}
use Rattle.map_facts_late.proofs.Given.PointsValues.Copying.{all_then, all_if}
use Rattle.many_calls.proofs.Asked.Goes.{AsksThere, AsksMissing, asks_both, GoesBy, tableless_by, last_by, read_by, went_on_by, first_by, next_by, helped_by, copied_by}

-- where a call that asks seeks, with its own block and its replies as they are
abbrev pub IsSeeking : Calling → Type 0
IsSeeking at.Roots = Unit {0}
IsSeeking at.Probes = Unit {0}
IsSeeking (at.Tries word new) = Unit {0}
IsSeeking at.Nexts = Unit {0}
IsSeeking (at.Firsts making) = Unit {0}
IsSeeking (at.Allocs making) = Unit {0}
IsSeeking (at.Helps copier goal) = Unit {0}
IsSeeking (at.Copies copier) = Unit {0}
IsSeeking (at.Asks (asking.Absent gap)) = Unit {0}
IsSeeking (at.Asks (asking.Present word)) = Unit {0}
IsSeeking _ = ⊥

-- a machine within it is refused for room alone
abbrev pub RoomsAt : Calling → Type 0
RoomsAt (at.Firsts making) = RoomInMaking making.stands
RoomsAt (at.Allocs making) = RoomInMaking making.stands
RoomsAt (at.Helps copier goal) = RoomInCopying copier.stands
RoomsAt (at.Copies copier) = RoomInCopying copier.stands
RoomsAt _ = Unit {0}

-- as its kind has it
pub rooms_at : (present : There) (absent : Missing) (kind : Takes) (stands : Calling) → FitsAt present absent kind stands → RoomsAt stands
rooms_at present absent kind (at.Firsts making) fits = fits.1
rooms_at present absent kind (at.Allocs making) fits = fits.1
rooms_at present absent kind (at.Helps copier goal) fits = fits.1
rooms_at present absent kind (at.Copies copier) fits = fits.1
rooms_at present absent kind at.Makes fits = tt
rooms_at present absent kind (at.Looks lookup) fits = tt
rooms_at present absent kind at.Roots fits = tt
rooms_at present absent kind at.Probes fits = tt
rooms_at present absent kind (at.Tries word new) fits = tt
rooms_at present absent kind (at.Counts removed) fits = tt
rooms_at present absent kind at.Nexts fits = tt
rooms_at present absent kind (at.Disposes dispose answer) fits = tt
rooms_at present absent kind (at.Asks asking) fits = tt
rooms_at present absent kind (at.Drops end) fits = tt
rooms_at present absent kind (at.Over end) fits = tt

module _ {K V Q : Type 0} (same : K → K → Bool) (hash : K → ℕ) (asks : Q → K → Bool) (p : KeyCall K V Q) (may : MayStore p.replies.takes p.there p.missing) (more : p.replies.takes ≢ takes.Nothing)
    (m m2 : Mem (Node K V)) (e : KeyCall K V Q × Called (Node K V)) where
  -- the word that it reads, if it reads that of its try
  abbrev pub Read : Calling → ℕ → Type 0
  Read at.Probes word = word_at m (place_tried p.trial) ≡ Some word
  Read (at.Tries old new) word = word_at m (place_tried p.trial) ≡ Some word
  Read _ word = ⊥

  -- it goes on, or asks again, or has put this word in the place of that one
  abbrev pub Walked : Calling → Type 0
  Walked stands = GoesBy (Read stands) p e ⊎ (((asked : Option ℕ) × (e ≡ (p, Asks asked))) ⊎ ((word : ℕ) × (new : ℕ) × (stands ≡ at.Tries word new) × (e ≡ changed p word new)))

  both : AsksThere p.there × AsksMissing p.missing
  both = asks_both p.replies.takes p.there p.missing may more

  as_end : (stands : Calling) (x : KeyCall K V Q × Called (Node K V)) → e ≡ x → GoesBy (Read stands) p x → GoesBy (Read stands) p e
  as_end stands x is h = subst (GoesBy (Read stands) p) (sym is) h

  pub walked : (stands : Calling) → IsSeeking stands → RoomsAt stands
      → Steps Took value_at m (plan_at asks same hash p stands) m2 e → Walked stands
  walked at.Roots so room s =
      let d = loaded m (root_found p) (Root p.setting.root) m2 e s in
      inl (all_then (GoesBy (Read at.Roots) p) (value_at m) (root_found p (Found d.0)) e (all_if (GoesBy (Read at.Roots) p) (d.0 == 0) _ _ (tableless_by (Read at.Roots) p both.0 both.1 p.missing refl) (λ v. (refl, tt, tt))) d.3)
  walked at.Probes so room s =
      let d = loaded m (word_found asks same p) (place_tried p.trial) m2 e s in
      inl (all_then (GoesBy (Read at.Probes) p) (value_at m) (word_found asks same p (Found d.0)) e (read_by (Read at.Probes) p both.0 both.1 asks same true d.0 d.1) d.3)
  walked (at.Tries word new) so room s =
      elim (exchanged m (tried asks same p word new) (place_tried p.trial) word new m2 e s) as (λ _. Walked (at.Tries word new)) [
        | inl d ↦ inr (inr (word, new, refl, d.3))
        | inr d ↦ inl (all_then (GoesBy (Read (at.Tries word new)) p) (value_at m) (tried asks same p word new (Exchanged (Err d.0))) e (read_by (Read (at.Tries word new)) p both.0 both.1 asks same false d.0 d.1.0) d.3)
      ]
  walked at.Nexts so room s =
      let d = loaded m (next_found p) (at_word p.trial.table NEXT) m2 e s in
      inl (all_then (GoesBy (Read at.Nexts) p) (value_at m) (next_found p (Found d.0)) e (all_if (GoesBy (Read at.Nexts) p) (d.0 == 0) _ _ (last_by (Read at.Nexts) p both.0 both.1 p.missing refl) (λ v. went_on_by (Read at.Nexts) p _)) d.3)
  walked (at.Firsts making) so room s = let d = steps_back (first_made p) m m2 (new_table_plan making) e s in inl (as_end (at.Firsts making) (first_made p d.0) d.2 (first_by (Read (at.Firsts making)) p d.0 (new_table_rooms making room m m2 d.0 d.1)))
  walked (at.Allocs making) so room s = let d = steps_back (next_made p) m m2 (new_table_plan making) e s in inl (as_end (at.Allocs making) (next_made p d.0) d.2 (next_by (Read (at.Allocs making)) p d.0 (new_table_rooms making room m m2 d.0 d.1)))
  walked (at.Helps copier goal) so room s = let d = steps_back (helped p goal) m m2 (copier_plan hash copier) e s in inl (as_end (at.Helps copier goal) (helped p goal d.0) d.2 (helped_by (Read (at.Helps copier goal)) p goal d.0 (copier_rooms K V hash copier room m m2 d.0 d.1)))
  walked (at.Copies copier) so room s = let d = steps_back (copied p) m m2 (copier_plan hash copier) e s in inl (as_end (at.Copies copier) (copied p d.0) d.2 (copied_by (Read (at.Copies copier)) p d.0 (copier_rooms K V hash copier room m m2 d.0 d.1)))
  walked (at.Asks (asking.Absent gap)) so room s = inr (inl (None, s.1))
  walked (at.Asks (asking.Present word)) so room s = inr (inl (Some word, s.1))
  walked (at.Asks (asking.Fills word)) so room s = absurd so
  walked (at.Asks (asking.GivesUp word)) so room s = absurd so
  walked at.Makes so room s = absurd so
  walked (at.Looks l) so room s = absurd so
  walked (at.Counts removed) so room s = absurd so
  walked (at.Disposes d answer) so room s = absurd so
  walked (at.Drops end) so room s = absurd so
  walked (at.Over end) so room s = absurd so
