-- What a sink got by a moment.
use Rattle.std.proofs.Common.{◌≡◌, inl, inr, ℕ, ◌+◌, ◌-◌, ◌<◌, ◌≤◌, false, List, [], ◌∷◌, ◌++◌, length, take, drop, Option, Some, None, refl, sym, ap, subst, ◌∙◌, arith, min}
use Rattle.std.specs.Prelude.{filter, map, nat_le}
use Rattle.std.proofs.lemmas.Bool.{le-leb, cases_lt}
use Rattle.std.proofs.lemmas.List.{append-nil}
use Rattle.std.proofs.lemmas.List.Elements.{filter-append}
use Rattle.hs_ports.specs.Sink.{bytes_of, followed, stamped}
use Rattle.hs_ports.specs.Putting.{PutsFront}
use Rattle.hs_ports.specs.Putting.{got_by}
use Rattle.hs_run.proofs.TellingLemmas.{put_more}

-- nothing more
pub followed_none : (got : Option (List ℕ)) → followed got [] ≡ got
followed_none None = refl
followed_none (Some got) = ap (λ (bytes : List ℕ). Some bytes) (append-nil got)

-- a front of nothing
pub front_none : (got got' : Option (List ℕ)) (bytes : List ℕ) → got' ≡ got → PutsFront got bytes got'
front_none got got' bytes same = record { count = 0; put = same ∙ sym (followed_none got) }

-- ---- a piece that was put at a moment

-- above another it does not count
late_none : (m k : ℕ) (piece : List ℕ) → m < k → filter (λ (byte : ℕ × ℕ). nat_le byte.1 m) (stamped k piece) ≡ []
late_none m k [] lt = refl
late_none m k (b ∷ piece) lt = rw (not_le m k lt) (late_none m k piece lt)
  where
    not_le : (m k : ℕ) → m < k → nat_le k m ≡ false
    not_le m k lt = grind arith

-- and else it does
late_all : (m k : ℕ) (piece : List ℕ) → k ≤ m → filter (λ (byte : ℕ × ℕ). nat_le byte.1 m) (stamped k piece) ≡ stamped k piece
late_all m k [] le = refl
late_all m k (b ∷ piece) le = rw (le-leb k m le) (ap (λ (rest : List (ℕ × ℕ)). (b, k) ∷ rest) (late_all m k piece le))

pub by_before : (m k : ℕ) (got got' : Option (List (ℕ × ℕ))) (piece : List ℕ) → got' ≡ followed got (stamped k piece) → m < k → got_by m got' ≡ got_by m got
by_before m k None got' piece put lt = ap (got_by m) put
by_before m k (Some got) got' piece put lt =
    ap (got_by m) put ∙ ap (λ (bytes : List (ℕ × ℕ)). Some bytes) (filter-append (λ (byte : ℕ × ℕ). nat_le byte.1 m) got (stamped k piece)
    ∙ ap (λ (back : List (ℕ × ℕ)). filter (λ (byte : ℕ × ℕ). nat_le byte.1 m) got ++ back) (late_none m k piece lt) ∙ append-nil (filter (λ (byte : ℕ × ℕ). nat_le byte.1 m) got))

-- the bytes of a stamped piece
bytes_stamped : (k : ℕ) (piece : List ℕ) → map (λ (stamp : ℕ × ℕ). stamp.0) (stamped k piece) ≡ piece
bytes_stamped k [] = refl
bytes_stamped k (b ∷ piece) = ap (λ (rest : List ℕ). b ∷ rest) (bytes_stamped k piece)

bytes_append : (got more : List (ℕ × ℕ)) → map (λ (stamp : ℕ × ℕ). stamp.0) (got ++ more) ≡ map (λ (stamp : ℕ × ℕ). stamp.0) got ++ map (λ (stamp : ℕ × ℕ). stamp.0) more
bytes_append [] more = refl
bytes_append (b ∷ got) more = ap (λ (rest : List ℕ). b.0 ∷ rest) (bytes_append got more)

pub by_after : (m k : ℕ) (got got' : Option (List (ℕ × ℕ))) (piece : List ℕ) → got' ≡ followed got (stamped k piece) → k ≤ m → bytes_of (got_by m got') ≡ followed (bytes_of (got_by m got)) piece
by_after m k None got' piece put le = ap (λ (g : Option (List (ℕ × ℕ))). bytes_of (got_by m g)) put
by_after m k (Some got) got' piece put le =
    let kept : List (ℕ × ℕ) = filter (λ (byte : ℕ × ℕ). nat_le byte.1 m) got in
    ap (λ (g : Option (List (ℕ × ℕ))). bytes_of (got_by m g)) put
    ∙ ap (λ (bytes : List (ℕ × ℕ)). Some (map (λ (stamp : ℕ × ℕ). stamp.0) bytes)) (filter-append (λ (byte : ℕ × ℕ). nat_le byte.1 m) got (stamped k piece) ∙ ap (λ (back : List (ℕ × ℕ)). kept ++ back) (late_all m k piece le))
    ∙ ap (λ (bytes : List ℕ). Some bytes) (bytes_append kept (stamped k piece) ∙ ap (λ (back : List ℕ). map (λ (stamp : ℕ × ℕ). stamp.0) kept ++ back) (bytes_stamped k piece))

-- ---- pieces one after another

-- how far some bytes were put: done of them up to the moment now. top: the moment at which a watch stands still
pub record Late (top before now done : ℕ) (bytes : List ℕ) (got got' : Option (List (ℕ × ℕ))) : Type 0 where
  pub later : before ≤ now
  pub upto : (m : ℕ) → m ≤ before → m < top → got_by m got' ≡ got_by m got
  pub front : (m : ℕ) → m < now → m < top → PutsFront (bytes_of (got_by m got)) bytes (bytes_of (got_by m got'))
  pub all : (m : ℕ) → now ≤ m → m < top → bytes_of (got_by m got') ≡ followed (bytes_of (got_by m got)) (take done bytes)

-- nothing was put yet
pub late_begun : (top now : ℕ) (bytes : List ℕ) (got : Option (List (ℕ × ℕ))) → Late top now now 0 bytes got got
late_begun top now bytes got = record {
  later = omega arith;
  upto = λ m le lt. refl;
  front = λ m lt low. front_none (bytes_of (got_by m got)) (bytes_of (got_by m got)) bytes refl;
  all = λ m le lt. sym (followed_none (bytes_of (got_by m got)));
}

-- at any moment a front of them was
pub late_front : (top before now done : ℕ) (bytes : List ℕ) (got got' : Option (List (ℕ × ℕ))) → Late top before now done bytes got got' → (m : ℕ) → m < top → PutsFront (bytes_of (got_by m got)) bytes (bytes_of (got_by m got'))
late_front top before now done bytes got got' late m low = elim (cases_lt m now) [
  | inl lt ↦ late.front m lt low
  | inr le ↦ record { count = done; put = late.all m le low }
]

-- the watch went on, and nothing was put
pub late_ticked : (top before now now' done : ℕ) (bytes : List ℕ) (got got' got'' : Option (List (ℕ × ℕ))) → Late top before now done bytes got got' → now ≤ now' → got'' ≡ got' → Late top before now' done bytes got got''
late_ticked top before now now' done bytes got got' got'' late le same = rw same (record {
  later = omega (arith, late.later);
  upto = late.upto;
  front = λ m lt low. late_front top before now done bytes got got' late m low;
  all = λ m le' lt. late.all m (omega arith) lt;
})

-- the next piece
pub late_more : (top before now now' done count : ℕ) (bytes : List ℕ) (got got' got'' : Option (List (ℕ × ℕ))) → Late top before now done bytes got got' → now' ≡ min (now + 1) top → now ≤ now'
    → got'' ≡ followed got' (stamped now' (take count (take (length bytes - done) (drop done bytes)))) → Late top before now' (done + count) bytes got got''
late_more top before now now' done count bytes got got' got'' late tick on put =
    let piece : List ℕ = take count (take (length bytes - done) (drop done bytes)) in
    record {
      later = omega (arith, late.later);
      upto = λ m le lt. by_before m now' got' got'' piece put (omega (arith, late.later)) ∙ late.upto m le lt;
      front = λ m lt low. subst (λ (g : Option (List (ℕ × ℕ))). PutsFront (bytes_of (got_by m got)) bytes (bytes_of g)) (sym (by_before m now' got' got'' piece put lt)) (late_front top before now done bytes got got' late m low);
      all = λ m le lt. put_more (bytes_of (got_by m got)) (bytes_of (got_by m got')) (bytes_of (got_by m got'')) bytes done count (late.all m (omega arith) lt) (by_after m now' got' got'' piece put le);
    }
