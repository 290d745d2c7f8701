-- What a section sees of a map is closed by links, and the section holds it.
use Rattle.std.specs.Prelude.{◌^◌, Option, Some}
use Rattle.std.proofs.Common.{◌≡◌, ◌⊎◌, ℕ, suc, ◌<◌, Bool, true, inl, inr, arith, ap, sym, subst, ◌∙◌}
use Rattle.run_shows.specs.Given.SeizeWordsMem.{value_at}
use Rattle.run_shows.specs.Given.SeizeWordsDeclared.at.At.TheVariants.{Root}
use Rattle.run_shows.specs.Given.SeizeLaw.{holds}
use Rattle.run_shows.specs.Given.SeizeWorld.{World, IsInside}
use Rattle.run_shows.specs.Given.TablesDeclared.node.Node.{Node}
use Rattle.run_shows.specs.Given.RuleInWorld.{IsMapIn, IsKnownBlock}
use Rattle.owner_facts.specs.Given.CallersKept.{IsWithin}
use Rattle.owner_facts.specs.Given.CallersSights.{IsVisibility, seen_by}
use Rattle.owner_facts.specs.Given.FinishesMaps.{Standing, MapsTogether}
use Rattle.owner_facts.specs.Given.CallersTogether.{UnderWay}
use Rattle.many_acts.specs.Links.Lists.{ScenesAreClosed}
use Rattle.many_acts.specs.Links.Tied.{Names, TableNames, AllAreClosed}
use Rattle.many_acts.proofs.Links.Named.{HoldsPair, no_pair, root_first, table_names, pair_there}

module _ {K Q : Type 0} (V : Type 0) (same : K → K → Bool) (asks : Q → K → Bool) (batch_size : ℕ) (slot : ℕ → ℕ)
    (w : World (Node K V)) (maps : ℕ → Option (Standing K)) (calls : ℕ → ℕ → Option (UnderWay K V Q)) (all : MapsTogether V same asks batch_size slot w maps calls) where
  module _ (m : ℕ) (s : Standing K) (here : maps m ≡ Some s) (x : ℕ) (inside : IsInside (w.uses x)) where
    map : IsMapIn same s.hash s.setting w s.chart s.blocks
    map = (all.each m s here).ground.map

    fits : (k : K) → s.hash k < 2 ^ 64
    fits = (all.fit m s here).0.fits

    sight : IsVisibility s.chart s.blocks (s.sights x)
    sight = ((all.each m s here).ground.sight x inside).0

    within : IsWithin w x s.chart (seen_by s.blocks (s.sights x)) s.setting
    within = ((all.each m s here).ground.sight x inside).1

    abbrev Sees : ℕ → Type 0
    Sees b = IsKnownBlock s.chart (seen_by s.blocks (s.sights x)) b

    root_seen : (b : ℕ) → Names w.memory (Root s.setting.root) b → Sees b
    root_seen b names =
        let k = root_first same s.hash fits s.setting w s.chart s.blocks map b names in
        inl (s.chart.first, k.0, sight.linked s.chart.first (omega arith) k.0, k.1)

    table_seen : (t b : ℕ) → Sees t → TableNames w.memory t b → Sees b
    table_seen t b (inr (n, was, seen, is)) names =
        let k = map.map.shows.pairs n was (sight.pairs n was seen) in
        absurd (no_pair (value_at w.memory t) k.0 k.1 (suc names.0) names.1 names.2 (ap (value_at w.memory) is ∙ k.2) names.4)
    table_seen t b (inl (u, made, seen, is)) names =
        by (table_names same s.hash fits s.setting w s.chart s.blocks map u made (sight.tables u made seen) b (subst (λ (y : ℕ). TableNames w.memory y b) is names))
      where
        by : ((suc u < s.chart.past) × (b ≡ s.blocks.table (suc u))) ⊎ HoldsPair s.chart s.blocks u b → Sees b
        by (inl (more, at)) = inl (suc u, more, sight.later u (suc u) (omega arith) more seen, at)
        by (inr pair) =
            let k = pair_there same s.hash fits s.setting w s.chart s.blocks map u made (sight.tables u made seen) pair.0 pair.1 pair.2 pair.3 pair.4 in
            inr (pair.1, k.0, sight.named u pair.0 pair.1 pair.2 pair.3 made seen pair.4, pair.5)

    seen_held : (b : ℕ) → Sees b → holds x b w.log ≡ true
    seen_held b (inl (t, made, seen, is)) = subst (λ (y : ℕ). holds x y w.log ≡ true) (sym is) (within.tables t made seen)
    seen_held b (inr (n, was, seen, is)) = subst (λ (y : ℕ). holds x y w.log ≡ true) (sym is) (within.pairs n was seen)

  pub all_are_closed : AllAreClosed w maps
  all_are_closed m s here x inside = record { root = root_seen m s here x inside; tables = table_seen m s here x inside; held = seen_held m s here x inside }

pub scenes_are_closed : {K S : Type 0} (V : Type 0) (same : K → K → Bool) (hash : S → K → ℕ) (batch_size roots : ℕ) (slot : ℕ → ℕ) → ScenesAreClosed V same hash batch_size roots slot
scenes_are_closed V same hash batch_size roots slot s all = all_are_closed V same same batch_size slot s.world s.maps s.calls all.makings.standing
