-- The pending grants of the flows that are shown, one after the other.
use Rattle.std.proofs.Common.{◌≡◌, ℕ, List, [], ◌∷◌, ◌++◌, map, filter, refl, ap, ◌∙◌, arith}
use Rattle.std.proofs.lemmas.List.{map-append, append_assoc}
use Rattle.flow_book.specs.Flows.{LiveFlow}
use Rattle.flow_book.specs.Shown.{is_shown}
use Rattle.minislots.specs.declared.config.Config.{Config}
use Rattle.map_build.specs.declared.draft.Draft.{Draft}
use Rattle.map_build.specs.UsageCodes.{long_iuc}
use Rattle.map_build.specs.FrameMap.{pending_to, pending_of}
use Rattle.map_build.specs.Draft.{Puts, PutsPending, Ends}

-- the pending grants to some SIDs, and then to one more
pub PutsPending-more : (sids : List ℕ) (sid : ℕ) (old mid new : Draft) → mid.offset ≡ mid.overlay.config.frame
    → PutsPending sids old mid → Puts sid (long_iuc old.overlay.config) 0 0 mid new
    → PutsPending (sids ++ sid ∷ []) old new
PutsPending-more sids sid old mid new end first puts = record {
  elements = puts.elements ∙ rw (
    end,
    first.elements,
    ap (λ o. o.config) first.overlay,
    map-append,
    append_assoc,
  ) refl;
  bytes_of = puts.bytes_of ∙ rw (first.bytes_of, map-append, append_assoc) refl;
  offset = omega (arith, puts.offset, first.offset);
  overlay = puts.overlay ∙ first.overlay;
  start = puts.start ∙ first.start;
  grants = puts.grants ∙ first.grants;
  met = puts.met ∙ first.met;
}

pendings-to : (c : Config) (flows : List LiveFlow) → map (pending_to c) (map (λ (f : LiveFlow). f.sid) flows)
    ≡ map (pending_of c) flows
pendings-to c [] = refl
pendings-to c (f ∷ flows) = ap (λ es. pending_of c f ∷ es) (pendings-to c flows)

zeros : (c : Config) (flows : List LiveFlow) → map (λ (sid : ℕ). 0) (map (λ (f : LiveFlow). f.sid) flows)
    ≡ map {B = ℕ} (λ e. 0) (map (pending_of c) flows)
zeros c [] = refl
zeros c (f ∷ flows) = ap (λ ns. 0 ∷ ns) (zeros c flows)

-- a draft with the Null, and then with the pending grants to the flows that are shown, is at its end
pub ends-pending : (old mid new : Draft) (sids : List ℕ) → old.offset ≡ old.overlay.config.frame
    → Puts 0 7 0 0 old mid
    → sids ≡ map (λ f. f.sid) (filter (is_shown old.overlay.config.pending old.overlay.flows) old.overlay.flows)
    → PutsPending sids mid new → Ends old new
ends-pending old mid new sids end null is puts = record {
  elements = puts.elements ∙ rw (
    null.elements,
    ap (λ o. o.config) null.overlay,
    end,
    is,
    pendings-to,
    append_assoc,
  ) refl;
  bytes_of = puts.bytes_of ∙ rw (null.bytes_of, is, zeros old.overlay.config, append_assoc) refl;
  offset = omega (arith, puts.offset, null.offset);
  overlay = puts.overlay ∙ null.overlay;
  start = puts.start ∙ null.start;
  grants = puts.grants ∙ null.grants;
  met = puts.met ∙ null.met;
}
