-- So it is after each act: what was sheltered is so still, and no entry reclaims any of it.
use Rattle.std.proofs.Common.{◌≡◌, ℕ, List, ◌∷◌, ap, sym, subst}
use Rattle.seize_acts.specs.Given.SeizeWorld.{Begins, World}
use Rattle.play_lists.specs.Given.TablesNodes.{deferred_word}
use Rattle.play_lists.specs.Given.TablesDeclared.node.Node.{Node}
use Rattle.run_schedules.specs.Schedules.After.{AtEachEvent}
use Rattle.play_lists.specs.Given.EffectsKnown.{Known}
use Rattle.play_lists.specs.Given.ScenesRows.{request_of}
use Rattle.play_lists.specs.Given.ScenesScene.{Scene}
use Rattle.play_lists.specs.Given.ScenesDeclared.row.SlotCall.{SlotCall}
use Rattle.play_lists.specs.Given.ScenesDeclared.row.SlotCall.TheVariants as call
use Rattle.run_schedules.specs.Deeds.Deeds.{Entry, after, moment}
use Rattle.run_schedules.specs.Deeds.History.{IsProtected}
use Rattle.play_lists.specs.Played.Play.{State}
use Rattle.play_linear.specs.Protects.Shelters.{SectionsShelter}
use Rattle.play_linear.proofs.Protects.Quiet.{shelters_still}
use Rattle.play_linear.proofs.Protects.Sections.{Keeps, keeps_same}

module _ {K V S : Type 0} where
  -- no entry so far reclaims what is sheltered, and what is is sheltered still
  abbrev pub Protected : State K V S → Scene K V → Type 0
  Protected x s = SectionsShelter (moment x.history) x.known s.world × AtEachEvent IsProtected x.history

module _ {K V S : Type 0} (x y : State K V S) (s n : Scene K V) (so : Protected x s) where
  -- one entry more
  pub one_more : (e : Entry K V) (known : Known) (w2 : World (Node K V)) → y.history ≡ e ∷ x.history → y.known ≡ known → n.world ≡ w2 → SectionsShelter (after e (moment x.history)) known w2 × IsProtected x.history e → Protected y n
  one_more e known w2 history known_is world it = (
    subst (λ (h : List (Entry K V)). SectionsShelter (moment h) y.known n.world) (sym history)
        (subst (λ (k : Known). SectionsShelter (moment (e ∷ x.history)) k n.world) (sym known_is) (subst (SectionsShelter (moment (e ∷ x.history)) known) (sym world) it.0)),
    subst (AtEachEvent IsProtected) (sym history) (it.1, so.1),
  )

  -- or none, where sections keep what they hold
  pub none_more : y.history ≡ x.history → y.known ≡ x.known → ((t : ℕ) → Keeps t s.world n.world) → Protected y n
  none_more history known_is keeps = (
    subst (λ (h : List (Entry K V)). SectionsShelter (moment h) y.known n.world) (sym history)
        (subst (λ (k : Known). SectionsShelter (moment x.history) k n.world) (sym known_is) (shelters_still s.world n.world keeps x.known (moment x.history) so.0)),
    subst (AtEachEvent IsProtected) (sym history) so.1,
  )

-- where a row begins nothing has happened to blocks and sections
module _ {K V : Type 0} (size i slot : ℕ) (w w2 : World (Node K V)) where
  pub begun_keeps : (called : SlotCall) → Begins deferred_word size i (request_of slot called) w w2 → (t : ℕ) → Keeps t w w2
  begun_keeps (call.Register enters) h t = keeps_same t w w2 (ap (λ (u : World (Node K V)). u.log) h)
  begun_keeps call.Enter h t = keeps_same t w w2 (ap (λ (u : World (Node K V)). u.log) h.1)
  begun_keeps call.Leave h t = keeps_same t w w2 (ap (λ (u : World (Node K V)). u.log) h.1)
  begun_keeps call.LeaveOwned h t = keeps_same t w w2 (ap (λ (u : World (Node K V)). u.log) h.1)
  begun_keeps call.Refresh h t = keeps_same t w w2 (ap (λ (u : World (Node K V)). u.log) h.1)
  begun_keeps call.Unregister h t = keeps_same t w w2 (ap (λ (u : World (Node K V)). u.log) h.1)
  begun_keeps call.Flush h t = keeps_same t w w2 (ap (λ (u : World (Node K V)). u.log) h.1)
