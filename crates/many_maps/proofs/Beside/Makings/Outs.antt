-- Blocks that are out: they are there, and what is out after a step of a making was so, or its maker had made it.
use Rattle.std.specs.Prelude.{◌≡◌, ℕ, ◌+◌, true, List, [], ◌∷◌, Some, Ok, Err, ◌⊎◌}
use Rattle.std.proofs.Common.{ap, sym, subst, ◌∙◌, inl, inr, arith}
use Rattle.many_calls.specs.Given.SeizeWordsOp.{Out, Found, Stored, Exchanged, Made, Taken, Roomed}
use Rattle.many_calls.specs.Given.SeizeWordsMem.{Mem, value_at}
use Rattle.many_calls.specs.Given.SeizeDeclared.states.TheConstants.{LAST_SLOT}
use Rattle.many_calls.specs.Given.SeizeWorld.{World, Hand, NoBlock, Making, InUse, Parting, Cutting, Handed, LeftTo, Event, Begin, Step, Makes, Drops, Links, Parts, Unlinks, Rewrites, Operates, Ends, LeavesOver, Relinks, Clears, Chooses, Happens, Runs, with_at, made_by}
use Rattle.many_calls.proofs.Given.SeizeMovesState.Ghost.{Life}
use Rattle.many_calls.proofs.Given.SeizeRulePoints.Aside.{HandFits, is_handed, IsStanding, cut_stands}
use Rattle.many_calls.proofs.Given.SeizeMemoryWords.Shows.{lives}
use Rattle.many_calls.proofs.Given.SeizeMemoryWords.There.{value_there}
use Rattle.many_calls.specs.Given.TablesNodes.{deferred_word}
use Rattle.many_calls.specs.Given.TablesDeclared.node.Node.{Node}
use Rattle.many_calls.specs.Given.TablesDeclared.setting.Setting.{Setting}
use Rattle.many_calls.specs.Given.RuleChart.{Chart}
use Rattle.many_calls.specs.Given.RuleInWorld.{IsOut, IsIts, IsItsEvent, IsKnownBlock, AllIts}
use Rattle.many_calls.specs.Given.RuleWords.{Blocks}
use Rattle.many_calls.proofs.Given.RuleWorld.Hands.{at_cases}
use Rattle.many_calls.specs.Together.{CameAbout}
use Rattle.many_calls.proofs.Together.Came.{came_reached}
use Rattle.many_calls.proofs.Given.General.{some_there}

-- what is linked is out
standing_out : (h : Hand) → IsStanding h → IsOut h
standing_out NoBlock is = absurd is
standing_out (Making i) is = absurd is
standing_out (InUse o) is = tt
standing_out (Parting i) is = tt
standing_out (Cutting i) is = absurd is
standing_out Handed is = absurd is
standing_out (LeftTo i) is = absurd is

pub handed_lives : (l : Life) → is_handed l ≡ true → lives l ≡ true
handed_lives l is = grind (arith, is)

out_lives : (h : Hand) (l : Life) → IsOut h → HandFits h l → lives l ≡ true
out_lives NoBlock l out f = absurd out
out_lives (Making i) l out f = absurd out
out_lives (InUse o) l out f = ap lives f
out_lives (Parting i) l out f = ap lives f
out_lives (Cutting i) l out f = ap lives f
out_lives Handed l out f = handed_lives l f
out_lives (LeftTo i) l out f = absurd out

-- a block that is out is there
pub out_there : {K V : Type 0} (size : ℕ) (w : World (Node K V)) → CameAbout size w → (b : ℕ) → IsOut (w.hand b) → (value : Node K V) × (value_at w.memory b ≡ Some value)
out_there size w came b out =
    let r = came_reached size w came in
    some_there (value_at w.memory b)
    (value_there deferred_word (LAST_SLOT + 1) w.memory r.good.state r.good.extra b r.good.shows (out_lives (w.hand b) (r.good.state.life b) out (r.good.hands b)))

module _ {K V : Type 0} (setting : Setting) (caller : ℕ) (w : World (Node K V)) (c : Chart K) (blocks : Blocks) (known_out : (x : ℕ) → IsKnownBlock c blocks x → IsOut (w.hand x)) (b : ℕ) where
  abbrev From : Type 0
  From = IsOut (w.hand b) ⊎ (w.hand b ≡ Making caller)

  abbrev IsFrom : (ℕ → Hand) → Type 0
  IsFrom hand = IsOut (hand b) → From

  abbrev IsFromIn : World (Node K V) → Type 0
  IsFromIn v = IsFrom v.hand

  -- a block changes hands, and is out only if it was
  put_from : (hand : ℕ → Hand) (x : ℕ) (h : Hand) → (IsOut h → IsOut (hand x)) → IsFrom hand → IsFrom (with_at hand x h)
  put_from hand x h was so =
      at_cases (λ (y : Hand). IsOut y → From) hand x h b (λ e out. so (subst (λ (y : ℕ). IsOut (hand y)) (sym e) (was out))) (λ ne out. so out)

  -- its own, or one that was out, is linked
  linked_from : (hand : ℕ → Hand) (x o : ℕ) → IsIts caller w c blocks x → IsFrom hand → IsFrom (with_at hand x (InUse o))
  linked_from hand x o its so = at_cases (λ (y : Hand). IsOut y → From) hand x (InUse o) b (λ e out. from its e) (λ ne out. so out)
    where
      from : IsIts caller w c blocks x → b ≡ x → From
      from (inl own) e = inr (ap w.hand e ∙ own.0)
      from (inr known) e = inl (subst (λ (y : ℕ). IsOut (w.hand y)) (sym e) (known_out x known))

  made_from : (v : World (Node K V)) (i : ℕ) (m : Mem (Node K V)) (out : Out (Node K V)) → IsFromIn v → IsFromIn (made_by deferred_word v i m out)
  made_from v i m (Made (Ok x)) so = put_from v.hand x (Making i) (λ out. absurd out) so
  made_from v i m (Made (Err back)) so = so
  made_from v i m (Found x) so = so
  made_from v i m Stored so = so
  made_from v i m (Exchanged r) so = so
  made_from v i m (Taken x) so = so
  made_from v i m (Roomed r) so = so

  event_from : (size : ℕ) (e : Event (Node K V)) (v v2 : World (Node K V)) → IsItsEvent setting caller w c blocks e → Happens deferred_word size e v v2 → IsFromIn v → IsFromIn v2
  event_from size (Begin i request) v v2 its e so = absurd its
  event_from size (Step i) v v2 its e so = absurd its
  event_from size (Makes i new words) v v2 its e so = subst IsFromIn (sym e.4) (made_from v i e.1 e.0 so)
  event_from size (Drops i x) v v2 its e so = subst IsFromIn (sym e.4) (put_from v.hand x NoBlock (λ out. absurd out) so)
  event_from size (Links i x o) v v2 its e so = subst IsFromIn (sym e.1) (linked_from v.hand x o its.0 so)
  event_from size (Parts i x) v v2 its e so = subst IsFromIn (sym e.1) (put_from v.hand x (Parting i) (λ out. subst IsOut (sym e.0.1) tt) so)
  event_from size (Unlinks i x) v v2 its e so = subst IsFromIn (sym e.1) (put_from v.hand x (Cutting i) (λ out. standing_out (v.hand x) (cut_stands i (v.hand x) e.0)) so)
  event_from size (Rewrites i x new) v v2 its e so = subst IsFromIn (sym e.5) so
  event_from size (Operates op) v v2 its e so = subst IsFromIn (sym e.4) so
  event_from size (Ends i o) v v2 its e so = absurd its
  event_from size (LeavesOver i x further) v v2 its e so = absurd its
  event_from size (Relinks i x word) v v2 its e so = absurd its
  event_from size (Clears i x) v v2 its e so = absurd its
  event_from size (Chooses choice) v v2 its e so = subst IsFromIn (sym e) so

  events_from : (size : ℕ) (events : List (Event (Node K V))) (v v2 : World (Node K V)) → AllIts setting caller w c blocks events → Runs deferred_word size events v v2 → IsFromIn v → IsFromIn v2
  events_from size [] v v2 its runs so = subst IsFromIn (sym runs) so
  events_from size (e ∷ events) v v2 its runs so = events_from size events runs.0 v2 its.1 runs.2 (event_from size e v runs.0 its.0 runs.1 so)

  -- what is out after such events was out, or this caller had made it
  pub out_from : (size : ℕ) (events : List (Event (Node K V))) (v2 : World (Node K V)) → AllIts setting caller w c blocks events → Runs deferred_word size events w v2 → IsOut (v2.hand b) → IsOut (w.hand b) ⊎ (w.hand b ≡ Making caller)
  out_from size events v2 its runs = events_from size events w v2 its runs (λ out. inl out)
