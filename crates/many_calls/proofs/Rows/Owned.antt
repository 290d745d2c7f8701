-- What a step of a caller links is its map's, as the log tells.
use Rattle.std.specs.Prelude.{◌≡◌, ℕ, Bool, cond, eqb, List, [], ◌∷◌, Ok, Err}
use Rattle.std.proofs.Common.{refl, ap, sym, subst, ◌∙◌}
use Rattle.std.proofs.lemmas.Bool.{eq-eqb, ne_eqb}
use Rattle.seize_model.specs.Given.SeizeWordsOp.{Out, Found, Stored, Exchanged, Made, Taken, Roomed}
use Rattle.seize_model.specs.Given.SeizeWordsMem.{Mem}
use Rattle.seize_model.specs.Given.SeizeLaw as law
use Rattle.seize_model.specs.Given.SeizeLaw.{Effect, Unlinked, Dropped, owner_of}
use Rattle.seize_model.specs.Given.SeizeWorld.{World, Hand, NoBlock, Making, InUse, Parting, Cutting, Handed, LeftTo, Event, Begin, Step, Makes, Drops, Links, Parts, Unlinks, Rewrites, Operates, Ends, LeavesOver, Relinks, Clears, Chooses, Happens, Runs, MayCut, with_at, made_by}
use Rattle.map_facts_late.specs.Given.TablesNodes.{deferred_word}
use Rattle.map_facts_late.specs.Given.TablesDeclared.node.Node.{Node}
use Rattle.map_facts_late.specs.Given.TablesDeclared.setting.Setting.{Setting}
use Rattle.map_facts_late.specs.Given.RuleChart.{Chart}
use Rattle.map_facts_late.specs.Given.RuleWords.{Blocks}
use Rattle.map_facts_late.specs.Given.RuleInWorld.{IsOut, IsItsEvent, AllIts}
use Rattle.map_facts_late.proofs.Given.RuleWorld.Hands.{at_cases}

-- what may be unlinked is out
cut_out : (i : ℕ) (h : Hand) → MayCut i h → IsOut h
cut_out i NoBlock cut = absurd cut
cut_out i (Making j) cut = absurd cut
cut_out i (InUse o) cut = tt
cut_out i (Parting j) cut = tt
cut_out i (Cutting j) cut = absurd cut
cut_out i Handed cut = absurd cut
cut_out i (LeftTo j) cut = absurd cut

module _ {K V : Type 0} (setting : Setting) (caller : ℕ) (w : World (Node K V)) (c : Chart K) (blocks : Blocks) (b : ℕ) where
  -- if it is out, it is the map's
  abbrev IsOwned : (ℕ → Hand) → List Effect → Type 0
  IsOwned hand log = IsOut (hand b) → owner_of b log ≡ setting.counter

  abbrev pub IsOwnedIn : World (Node K V) → Type 0
  IsOwnedIn v = IsOwned v.hand v.log

  -- a block changes hands, and is out only if it was
  put_owned : (hand : ℕ → Hand) (log log2 : List Effect) (x : ℕ) (h : Hand) → (IsOut h → IsOut (hand x)) → owner_of b log2 ≡ owner_of b log → IsOwned hand log → IsOwned (with_at hand x h) log2
  put_owned hand log log2 x h was same owned =
      at_cases (λ (y : Hand). IsOut y → owner_of b log2 ≡ setting.counter) hand x h b
      (λ e out. same ∙ owned (subst (λ (y : ℕ). IsOut (hand y)) (sym e) (was out))) (λ ne out. same ∙ owned out)

  linked_owned : (hand : ℕ → Hand) (log : List Effect) (x : ℕ) (o : ℕ) → o ≡ setting.counter → IsOwned hand log
      → IsOut (with_at hand x (InUse o) b) → cond (eqb b x) o (owner_of b log) ≡ setting.counter
  linked_owned hand log x o is owned =
      at_cases (λ (y : Hand). IsOut y → cond (eqb b x) o (owner_of b log) ≡ setting.counter) hand x (InUse o) b
      (λ e out. ap (λ (q : Bool). cond q o (owner_of b log)) (eq-eqb b x e) ∙ is)
      (λ ne out. ap (λ (q : Bool). cond q o (owner_of b log)) (ne_eqb b x ne) ∙ owned out)

  made_owned : (v : World (Node K V)) (i : ℕ) (m : Mem (Node K V)) (out : Out (Node K V)) → IsOwnedIn v → IsOwnedIn (made_by deferred_word v i m out)
  made_owned v i m (Made (Ok x)) owned = put_owned v.hand v.log (law.Made x ∷ v.log) x (Making i) (λ out. absurd out) refl owned
  made_owned v i m (Made (Err back)) owned = owned
  made_owned v i m (Found x) owned = owned
  made_owned v i m Stored owned = owned
  made_owned v i m (Exchanged r) owned = owned
  made_owned v i m (Taken x) owned = owned
  made_owned v i m (Roomed r) owned = owned

  event_owned : (size : ℕ) (e : Event (Node K V)) (v v2 : World (Node K V)) → IsItsEvent setting caller w c blocks e → Happens deferred_word size e v v2 → IsOwnedIn v → IsOwnedIn v2
  event_owned size (Begin i request) v v2 its e owned = absurd its
  event_owned size (Step i) v v2 its e owned = absurd its
  event_owned size (Makes i new words) v v2 its e owned = subst IsOwnedIn (sym e.4) (made_owned v i e.1 e.0 owned)
  event_owned size (Drops i x) v v2 its e owned = subst IsOwnedIn (sym e.4) (put_owned v.hand v.log (Dropped x ∷ v.log) x NoBlock (λ out. absurd out) refl owned)
  event_owned size (Links i x o) v v2 its e owned = subst IsOwnedIn (sym e.1) (linked_owned v.hand v.log x o its.1 owned)
  event_owned size (Parts i x) v v2 its e owned = subst IsOwnedIn (sym e.1) (put_owned v.hand v.log v.log x (Parting i) (λ out. subst IsOut (sym e.0.1) tt) refl owned)
  event_owned size (Unlinks i x) v v2 its e owned = subst IsOwnedIn (sym e.1) (put_owned v.hand v.log (Unlinked x ∷ v.log) x (Cutting i) (λ out. cut_out i (v.hand x) e.0) refl owned)
  event_owned size (Rewrites i x new) v v2 its e owned = subst IsOwnedIn (sym e.5) owned
  event_owned size (Operates op) v v2 its e owned = subst IsOwnedIn (sym e.4) owned
  event_owned size (Ends i o) v v2 its e owned = absurd its
  event_owned size (LeavesOver i x further) v v2 its e owned = absurd its
  event_owned size (Relinks i x word) v v2 its e owned = absurd its
  event_owned size (Clears i x) v v2 its e owned = absurd its
  event_owned size (Chooses choice) v v2 its e owned = subst IsOwnedIn (sym e) owned

  -- and so is what such events link
  pub events_owned : (size : ℕ) (events : List (Event (Node K V))) (v v2 : World (Node K V)) → AllIts setting caller w c blocks events → Runs deferred_word size events v v2 → IsOwnedIn v → IsOwnedIn v2
  events_owned size [] v v2 its runs owned = subst IsOwnedIn (sym runs) owned
  events_owned size (e ∷ events) v v2 its runs owned = events_owned size events runs.0 v2 its.1 runs.2 (event_owned size e v runs.0 its.0 runs.1 owned)
