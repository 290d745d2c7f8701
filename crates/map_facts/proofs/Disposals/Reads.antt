-- A step of a disposal that reads the root: it looks at older tables, or unlinks the pair.
use Rattle.std.proofs.Common.{refl, ap, sym, subst, ◌∙◌, inl, inr, arith}
use Rattle.std.proofs.lemmas.Bool.{ltb-true, ltb-false}
use Rattle.std.specs.Prelude.{◌≡◌, ℕ, ◌*◌, ◌/◌, ◌≤◌, Bool, true, false, nat_lt, Some, ◌⊎◌}
use Rattle.map_rule.proofs.Given.SeizeWordsOneOwner.Operations.{may_load, loaded}
use Rattle.map_rule.proofs.Given.SeizeWordsPlans.{see_if, ends_if}
use Rattle.map_rule.specs.Given.SeizeWordsMem.{Mem, Can, Took, value_at, word_at}
use Rattle.map_rule.specs.Given.SeizeWordsPlan.{May, Steps, Ends}
use Rattle.map_rule.specs.Given.SeizeWordsDeclared.at.At.TheVariants.{Root}
use Rattle.map_rule.proofs.Given.SeizeRuleRows.Others.{with_here}
use Rattle.papaya_raw.specs.Given.SeizeLaw.{Unlinked}
use Rattle.papaya_raw.specs.Given.SeizeSettle.{retiring}
use Rattle.papaya_raw.specs.Given.SeizeWorld.{World, Cutting, with_hand, with_effect}
use Rattle.papaya_raw.specs.Given.SeizeDeclared.rows.settle.Settled.{Settled}
use Rattle.papaya_raw.specs.Given.SeizeDeclared.rows.settle.Settled.TheVariants.{Goes}
use Rattle.map_rule.specs.Given.ResizeDispose.{retires, standing, goes, compared, root_read, reads}
use Rattle.papaya_raw.specs.Given.TablesNodes.{table_seen}
use Rattle.map_rule.specs.Given.ResizeDeclared.dispose.Dispose.{Dispose}
use Rattle.map_rule.specs.Given.ResizeDeclared.dispose.Disposing.{Disposing}
use Rattle.map_rule.specs.Given.ResizeDeclared.dispose.Disposing.TheVariants as at
use Rattle.papaya_raw.specs.Given.TablesDeclared.node.Node.{Node}
use Rattle.papaya_raw.specs.Given.TablesDeclared.setting.Setting.{Setting}
use Rattle.papaya_raw.specs.Given.TablesDeclared.table.Table.{Table}
use Rattle.map_rule.specs.Chart.{Chart}
use Rattle.map_facts.specs.FactsDisposes.{LiesBefore, LiesNowhere, DisposingFacts, DisposeFacts}
use Rattle.map_rule.specs.InWorld.{IsMapIn, StepSpec, SparesPairs}
use Rattle.map_facts.specs.Measures.{IsBelow}
use Rattle.map_facts.specs.MeasuresDisposes.{number_at_disposing, number_of_dispose}
use Rattle.map_facts.specs.Told.{DisposeOutcome}
use Rattle.map_rule.specs.Words.{Blocks, root_word}
use Rattle.map_rule.proofs.Words.LinksRead.{link_shown, link_table}
use Rattle.map_rule.specs.Links.{IsLinkTo}
use Rattle.map_rule.proofs.Words.LinksSeen.{link_made, root_leads}
use Rattle.map_rule.proofs.World.WentStill.{went_still, spares_same}
use Rattle.map_facts.proofs.Steps.WentUnlinked.{went_unlinked}
use Rattle.map_rule.proofs.Given.General.{some_is as is_some_of}

module _ {K V : Type 0} (same : K → K → Bool) (hash : K → ℕ) (setting : Setting) (w : World (Node K V)) (caller : ℕ) (c : Chart K) (blocks : Blocks)
    (map : IsMapIn same hash setting w c blocks) (d : Dispose) (f : DisposeFacts w caller setting c blocks d) where
  -- it stands elsewhere
  facts_at : (stands : Disposing) → DisposingFacts w caller setting c blocks f.n f.t stands → DisposeFacts w caller setting c blocks (standing d stands)
  facts_at stands point = record { setting_is = f.setting_is; n = f.n; t = f.t; left = f.left; pair_is = f.pair_is; table = f.table; point = point }

  -- from here, the number of a step that goes on is lower
  abbrev pub Lowers : Disposing → Dispose × Settled (Node K V) → Chart K → Blocks → Type 0
  Lowers here end c2 blocks2 = end.1 ≡ Goes → IsBelow (number_of_dispose c2 blocks2 end.0) (number_at_disposing c blocks d.table.turn here)

  abbrev pub DisposeWent : Disposing → Mem (Node K V) → Dispose × Settled (Node K V) → Type 0
  DisposeWent here m2 end =
      StepSpec same hash setting caller w c blocks m2 (λ w2 c2 blocks2. SparesPairs w w2 × (c2 ≡ c) × DisposeOutcome w2 caller setting c2 blocks2 end × Lowers here end c2 blocks2)

  -- a step that changed nothing, where it goes on from there
  pub told_still : (here : Disposing) (m2 : Mem (Node K V)) → m2 ≡ w.memory → (stands : Disposing) (end : Dispose × Settled (Node K V)) → end ≡ (standing d stands, Goes)
      → DisposingFacts w caller setting c blocks f.n f.t stands
      → IsBelow (number_at_disposing c blocks d.table.turn stands) (number_at_disposing c blocks d.table.turn here) → DisposeWent here m2 end
  told_still here m2 is stands end ends point below =
      went_still same hash setting caller w c blocks map m2 is
      (λ w2 c2 blocks2. SparesPairs w w2 × (c2 ≡ c) × DisposeOutcome w2 caller setting c2 blocks2 end × Lowers here end c2 blocks2) (
        spares_same w,
        refl,
        subst (λ (x : Dispose × Settled (Node K V)). DisposeOutcome w caller setting c blocks x) (sym ends) (facts_at stands point),
        subst (λ (x : Dispose × Settled (Node K V)). Lowers here x c blocks) (sym ends) (λ goes. below),
      )

  pub turn_is : d.table.turn ≡ f.t
  turn_is = ap (λ (x : Table). x.turn) f.table.is

  -- The root is read.
  root_there : word_at w.memory (Root d.setting.root) ≡ Some (root_word hash c blocks)
  root_there = subst (λ (s : Setting). word_at w.memory (Root s.root) ≡ Some (root_word hash c blocks)) (sym f.setting_is) map.map.shows.root_there

  root_is : (link : ℕ) → word_at w.memory (Root d.setting.root) ≡ Some link → IsLinkTo c blocks link c.first
  root_is link read =
      link_made c blocks link c.first
      (root_leads same hash setting.mode setting.root w.memory c blocks map.map link
      (subst (λ (s : Setting). word_at w.memory (Root s.root) ≡ Some link) f.setting_is read))
      (let made = f.table.made in map.map.rule.common.rooted (omega (arith, made)))

  pub may_reads : May Can Took value_at w.memory (reads d)
  may_reads =
      may_load w.memory (root_read d) (Root d.setting.root) (is_some_of _ _ root_there)
      (λ link read. (
        link_shown hash w.memory c blocks setting.root map.map.shows link c.first (root_is link read),
        (λ value is. see_if (value_at w.memory) (nat_lt (table_seen link value).turn d.table.turn) _ _ (λ _. tt) (λ _. tt)),
      ))

  -- where no table of the map is before the pair's own, it stands nowhere
  nowhere : LiesBefore w caller setting c blocks f.n f.t → f.t ≤ c.first → LiesNowhere w caller setting c blocks f.n
  nowhere before l u j phase borrowed far made stood = let low = before u j phase borrowed stood in absurd (omega (arith, low, l, far))

  pub went_reads : DisposingFacts w caller setting c blocks f.n f.t at.Reads → (m2 : Mem (Node K V)) (end : Dispose × Settled (Node K V))
      → Steps Took value_at w.memory (reads d) m2 end → DisposeWent at.Reads m2 end
  went_reads point m2 end s =
      let l = loaded w.memory (root_read d) (Root d.setting.root) m2 end s in
      looked l.0 (root_is l.0 l.1) l.2 l.3.0 l.3.1 l.3.2
    where
      settles : retiring d.setting.slot d.setting.batch_size d.pair ≡ retiring setting.slot setting.batch_size (blocks.pair f.n * 2048)
      settles =
          ap (λ (s : Setting). retiring s.slot s.batch_size d.pair) f.setting_is ∙ ap (λ (p : ℕ). retiring setting.slot setting.batch_size p) f.pair_is

      either : (link turn : ℕ) → IsLinkTo c blocks link c.first → m2 ≡ w.memory → turn ≡ c.first
          → ((nat_lt turn d.table.turn ≡ true) × (end ≡ (standing d (at.Walks link), Goes)))
          ⊎ ((nat_lt turn d.table.turn ≡ false) × (end ≡ (standing d (retires d.setting d.pair), Goes)))
          → DisposeWent at.Reads m2 end
      either link turn r is first (inl e) =
          let l = ltb-true turn d.table.turn e.0 in
          let own = turn_is in
          told_still at.Reads m2 is (at.Walks link) end e.1 (point.0, point.1, point.2, c.first, omega (arith, l, own, first), r.2, r.0) (inl (omega arith))
      either link turn r is first (inr e) =
          let l = ltb-false turn d.table.turn e.0 in
          let own = turn_is in
          let none = nowhere point.2 (omega (arith, l, own, first)) in
          went_unlinked same hash setting w caller c blocks map f.n f.left.0 f.left.1 f.left.2 point.1 none m2 is
          (λ w2 c2 blocks2. SparesPairs w w2 × (c2 ≡ c) × DisposeOutcome w2 caller setting c2 blocks2 end × Lowers at.Reads end c2 blocks2)
          (λ spares. (
            spares,
            refl,
            subst (λ (x : Dispose × Settled (Node K V)). DisposeOutcome (with_effect (with_hand w (blocks.pair f.n) (Cutting caller)) (Unlinked (blocks.pair f.n))) caller setting c blocks x)
                (sym e.1)
                (record {
                  setting_is = f.setting_is;
                  n = f.n;
                  t = f.t;
                  left = f.left;
                  pair_is = f.pair_is;
                  table = f.table;
                  point = ((settles, cut), none);
                }),
            subst (λ (x : Dispose × Settled (Node K V)). Lowers at.Reads x c blocks) (sym e.1) (λ goes. inl (omega arith)),
          ))
        where
          cut : (with_effect (with_hand w (blocks.pair f.n) (Cutting caller)) (Unlinked (blocks.pair f.n))).hand (blocks.pair f.n) ≡ Cutting caller
          cut = with_here w.hand (blocks.pair f.n) (Cutting caller)

      looked : (link : ℕ) → IsLinkTo c blocks link c.first → m2 ≡ w.memory
          → (value : Node K V) → value_at w.memory (link / 2048) ≡ Some value → Ends (value_at w.memory) (compared d link (table_seen link value)) end
          → DisposeWent at.Reads m2 end
      looked link r is value seen ends =
          let entered = link_table hash w.memory c blocks setting.root map.map.shows link c.first r value seen in
          either link (table_seen link value).turn r is (ap (λ (x : Table). x.turn) entered.is)
          (ends_if (value_at w.memory) (nat_lt (table_seen link value).turn d.table.turn) (goes d (at.Walks link)) (goes d (retires d.setting d.pair)) end ends)
