-- The data grants of the first elements of a MAP.
use Rattle.std.proofs.Common.{◌≡◌, ℕ, ◌+◌, ◌<◌, ◌≤◌, List, [], ◌∷◌, ◌++◌, length, map, take, drop, get_or, filter_map}
use Rattle.std.proofs.Common.{sym, ap, ◌∙◌, append_assoc, arith}
use Rattle.std.specs.List.{zip, cons_option}
use Rattle.std.proofs.lemmas.List.{take_more, take-append-drop, length-map}
use Rattle.std.proofs.lemmas.List.Elements.{filter_map-append}
use Rattle.std.proofs.lemmas.List.Sums.{sum_by-append}
use Rattle.std.proofs.lemmas.Slice.Zip.{length-zip, get_or-zip}
use Rattle.map_codec.specs.declared.element.Element.{Element}
use Rattle.flow_book.specs.declared.flow.Grant.{Grant}
use Rattle.flow_book.specs.Flows.{bytes_of}
use Rattle.minislots.specs.declared.config.Config.{Config}
use Rattle.sched_history.specs.Life.{grant_by}
use Rattle.sched_report.specs.declared.service.Service.{Service}
use Rattle.sched_report.specs.Delays.{Claim}
use Rattle.sched_report.specs.Served.{IsServiceOf, with_grants}
use Rattle.sched_report.specs.Told.{MayGrantAll}

module _ (sid start : ℕ) (es : List Element) (bs : List ℕ) where
  -- those of the first elements
  abbrev pub first_grants : ℕ → List Grant
  first_grants i = filter_map (grant_by sid start) (take i (zip es bs))

  -- and of one element more
  pub first_grants-more : (i : ℕ) (d : Element) (n : ℕ) → i < length es → i < length bs
      → first_grants (i + 1) ≡ first_grants i ++ cons_option (grant_by sid start (get_or es i d, get_or bs i n)) []
  first_grants-more i d n in_elements in_counts =
      let z : List (Element × ℕ) = zip es bs in
      let below : i < length z = omega (arith, length-zip es bs, in_elements, in_counts) in
      ap (filter_map (grant_by sid start)) (take_more z i (d, n) below)
      ∙ filter_map-append (grant_by sid start) (take i z) (get_or z i (d, n) ∷ [])
      ∙ ap (λ (e : Element × ℕ). first_grants i ++ cons_option (grant_by sid start e) [])
      (get_or-zip es bs i (d, n) in_elements in_counts)

  -- they have no more bytes than those of all
  pub first_grants-≤ : (i : ℕ) → bytes_of (first_grants i) ≤ bytes_of (filter_map (grant_by sid start) (zip es bs))
  first_grants-≤ i =
      let z : List (Element × ℕ) = zip es bs in
      let f = grant_by sid start in
      omega (
        arith,
        ap (λ (es : List (Element × ℕ)). bytes_of (filter_map f es)) (sym (take-append-drop i z)),
        ap bytes_of (filter_map-append f (take i z) (drop i z)),
        sum_by-append (λ (g : Grant). g.bytes) (filter_map f (take i z)) (filter_map f (drop i z)),
      )

module _ (c : Config) (s now : Service) (sid start : ℕ) (es : List Element) (bs : List ℕ) (i : ℕ) (d : Element) (n : ℕ)
    (in_elements : i < length es) (in_counts : i < length bs) where
  -- one element more is counted behind some grants
  next_grants : (grants : List Grant)
      → (grants ++ first_grants sid start es bs i)
      ++ cons_option (grant_by sid start (get_or es i d, get_or bs i n)) []
      ≡ grants ++ first_grants sid start es bs (i + 1)
  next_grants grants =
      append_assoc grants (first_grants sid start es bs i)
      (cons_option (grant_by sid start (get_or es i d, get_or bs i n)) [])
      ∙ ap (λ (gs : List Grant). grants ++ gs) (sym (first_grants-more sid start es bs i d n in_elements in_counts))

  -- the next element may be counted, where all may be
  pub MayGrantAll-next : MayGrantAll c s (filter_map (grant_by sid start) (zip es bs))
      → ((claims : List Claim) (bytes : ℕ) (grants : List Grant) → IsServiceOf c s claims bytes grants
      → IsServiceOf c now (map (with_grants (first_grants sid start es bs i)) claims) bytes
      (grants ++ first_grants sid start es bs i))
      → MayGrantAll c now (cons_option (grant_by sid start (get_or es i d, get_or bs i n)) [])
  MayGrantAll-next may so_far = record {
    claims = map (with_grants (first_grants sid start es bs i)) may.claims;
    bytes = may.bytes;
    grants = may.grants ++ first_grants sid start es bs i;
    is = so_far may.claims may.bytes may.grants may.is;
    lawful = may.lawful;
    few = omega (arith, may.few, length-map may.claims (with_grants (first_grants sid start es bs i)));
    fits = may.fits;
    within = omega (
      arith,
      may.within,
      ap bytes_of (next_grants may.grants),
      sum_by-append (λ (g : Grant). g.bytes) may.grants (first_grants sid start es bs (i + 1)),
      sum_by-append (λ (g : Grant). g.bytes) may.grants (filter_map (grant_by sid start) (zip es bs)),
      first_grants-≤ sid start es bs (i + 1),
    );
  }
