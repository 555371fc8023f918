-- What a crash leaves of a log while a frame is written, and while its gate is opened.
use Rattle.std.proofs.Common.{◌≡◌, ◌∙◌, ◌⊎◌, inl, inr, ℕ, ◌+◌, ◌-◌, ◌<◌, ◌≤◌, false, List, [], ◌∷◌, ◌++◌, length, get_or, take, drop, map, Option, None, Some, Result, Ok, refl, ap, sym, subst, arith, append_assoc, length-append, length-drop, take-append-drop}
use Rattle.std.specs.Option.{option_and_then}
use Rattle.std.proofs.lemmas.Bool.{cases_eq, ne_eqb}
use Rattle.std.proofs.lemmas.List.{ext_get_or, get_or-take, get_or-drop, length-take-le, take_at, drop_at, drop_more, map-append}
use Rattle.hs_ports.specs.Disk.{Loose, IsImage, byte_at, settled, written, overwritten}
use Rattle.hs_entry.specs.declared.entry.Entry.{Entry}
use Rattle.hs_side.specs.declared.header.Header.{Header}
use Rattle.hs_side.specs.Follow.{Follow, start, after, followed}
use Rattle.hs_side.specs.Reading.{is_open, Frame, entry_of, log_of, with_frame, listed, list_of}
use Rattle.hs_side.specs.Spelling.{head, body, frame}
use Rattle.hs_side.specs.Standing.{SideState, Waits, MayCome, IsFirm, HasLog, opened}
use Rattle.hs_side.proofs.FrameLemmas.{read_ends}
use Rattle.hs_side.proofs.ReadLemmas.{Front_more, log_closed, length-body, found_read, found_again, some_is}

-- two contents that agree below a place have the same front
pub same_take : (n : ℕ) (c d : List ℕ) → n ≤ length c → n ≤ length d → ((i : ℕ) → i < n → byte_at c i ≡ byte_at d i) → take n c ≡ take n d
same_take n c d long long' same =
    let size : length (take n c) ≡ n = length-take-le n c long in
    let size' : length (take n d) ≡ n = length-take-le n d long' in
    ext_get_or 0 (take n c) (take n d) (omega arith) (λ i low.
    let below : i < n = omega arith in
    get_or-take n c i 0 below ∙ same i below ∙ sym (get_or-take n d i 0 below))

-- two contents of one length that agree from a place on have the same back
pub same_drop : (n : ℕ) (c d : List ℕ) → length c ≡ length d → ((i : ℕ) → n ≤ i → i < length c → byte_at c i ≡ byte_at d i) → drop n c ≡ drop n d
same_drop n c d long same =
    let size : length (drop n c) ≡ length c - n = length-drop n c in
    let size' : length (drop n d) ≡ length d - n = length-drop n d in
    ext_get_or 0 (drop n c) (drop n d) (omega arith) (λ i low. get_or-drop n c i 0 ∙ same (n + i) (omega arith) (omega arith) ∙ sym (get_or-drop n d i 0))

-- a write behind a place leaves what is before it
pub written_firm : (end n : ℕ) (seen : List ℕ) → end < length seen → IsFirm end seen (written (end + 1) n (settled seen))
written_firm end n seen inside content image =
    same_take (end + 1) content seen (omega (arith, image.no_shorter)) (omega arith) (λ i low. image.kept i (omega arith) (inl low, tt))

-- a side at rest
pub settled_firm : (end : ℕ) (seen : List ℕ) → end < length seen → IsFirm end seen (settled seen)
settled_firm end seen inside content image =
    same_take (end + 1) content seen (omega (arith, image.no_shorter)) (omega arith) (λ i low. image.kept i (omega arith) tt)

-- a gate is written: any byte there, and all else as it was
pub gate_image : (end n : ℕ) (seen content : List ℕ) → end < length seen → n ≡ 1 → IsImage (written end n (settled seen)) content → content ≡ take end seen ++ byte_at content end ∷ drop (end + 1) seen
gate_image end n seen content inside one image =
    let size : length content ≡ length seen = omega (arith, image.no_shorter, image.no_longer) in
    let front : take end content ≡ take end seen = same_take end content seen (omega arith) (omega arith) (λ i low. image.kept i (omega arith) (inl low, tt)) in
    let back : drop (end + 1) content ≡ drop (end + 1) seen = same_drop (end + 1) content seen size (λ i low high. image.kept i (omega arith) (inr (omega arith), tt)) in
    sym (take-append-drop end content)
    ∙ ap (λ (l : List ℕ). take end content ++ l) (drop_more content end 0 (omega arith))
    ∙ ap (λ (l : List ℕ). l ++ get_or content end 0 ∷ drop (end + 1) content) front
    ∙ ap (λ (l : List ℕ). take end seen ++ get_or content end 0 ∷ l) back

module _ (header : Header) (generation : ℕ) (log : SideState) (seen : List ℕ) (loose : Loose) (has : HasLog 165 header generation log seen loose) where
  -- what stands before the last gate
  abbrev pub front : List ℕ
  front = head 165 header generation ++ has.bytes

  pub length-front : length front ≡ log.end
  length-front = omega (arith, length-append (head 165 header generation) has.bytes, has.end)

  pub inside : log.end < length seen
  inside = omega (arith, length-front, length-append front (has.closing ∷ has.rest), ap length has.spelled)

  pub front_is : take log.end seen ≡ front
  front_is = ap (λ (l : List ℕ). take log.end l) has.spelled ∙ take_at front (has.closing ∷ has.rest) log.end length-front

  pub back_is : drop (log.end + 1) seen ≡ has.rest
  back_is =
      ap (λ (l : List ℕ). drop (log.end + 1) l) (has.spelled ∙ sym (append_assoc front (has.closing ∷ []) has.rest))
      ∙ drop_at (front ++ has.closing ∷ []) has.rest (log.end + 1) (omega (arith, length-front, length-append front (has.closing ∷ [])))

  pub gate_is : take (log.end + 1) seen ≡ front ++ has.closing ∷ []
  gate_is =
      ap (λ (l : List ℕ). take (log.end + 1) l) (has.spelled ∙ sym (append_assoc front (has.closing ∷ []) has.rest))
      ∙ take_at (front ++ has.closing ∷ []) has.rest (log.end + 1) (omega (arith, length-front, length-append front (has.closing ∷ [])))

  -- the log that is read
  pub log_is : log_of seen ≡ Ok (Some (record { header = header; generation = generation; frames = has.found }))
  log_is = ap log_of has.spelled ∙ log_closed header generation has.bytes has.found has.follow has.closing has.rest has.fits has.front has.closed (has.ends refl)

  -- a content with another closed gate gives the same log
  pub shut : (gate : ℕ) (content : List ℕ) → is_open gate ≡ false → content ≡ take log.end seen ++ gate ∷ drop (log.end + 1) seen → log_of content ≡ log_of seen
  shut gate content closed is =
      ap log_of (is ∙ ap (λ (l : List ℕ). l ++ gate ∷ drop (log.end + 1) seen) front_is)
      ∙ log_closed header generation has.bytes has.found has.follow gate (drop (log.end + 1) seen) has.fits has.front closed (has.ends refl)
      ∙ sym log_is

  -- a content with the same bytes up to the last gate gives the same log
  pub firm_log : (content : List ℕ) → take (log.end + 1) content ≡ take (log.end + 1) seen → log_of content ≡ log_of seen
  firm_log content same =
      ap log_of (sym (take-append-drop (log.end + 1) content) ∙ ap (λ (l : List ℕ). l ++ drop (log.end + 1) content) (same ∙ gate_is) ∙ append_assoc front (has.closing ∷ []) (drop (log.end + 1) content))
      ∙ log_closed header generation has.bytes has.found has.follow has.closing (drop (log.end + 1) content) has.fits has.front has.closed (has.ends refl)
      ∙ sym log_is

abbrev given : {A E : Type 0} → A → Result A E
given x = Ok x

pub ok_is : {A E : Type 0} (x y : A) → given {E = E} x ≡ given y → x ≡ y
ok_is x y e = cc

-- one entry more
pub followed-push : (follow last next : Follow) (entries : List (ℕ × Entry)) (x : ℕ × Entry) → followed follow entries ≡ Some last → after last x.0 x.1 ≡ Some next → followed follow (entries ++ x ∷ []) ≡ Some next
unfolding followed
followed-push follow last next [] x before comes = rw (some_is follow last before, comes) refl
followed-push follow last next (y ∷ entries) x before comes =
    go (after follow y.0 y.1) (λ middle e. followed-push middle last next entries x e comes) before
  where
    go : (r : Option Follow) → ((middle : Follow) → followed middle entries ≡ Some last → followed middle (entries ++ x ∷ []) ≡ Some next)
        → option_and_then (λ middle. followed middle entries) r ≡ Some last → option_and_then (λ middle. followed middle (entries ++ x ∷ [])) r ≡ Some next
    go None ih e = absurd cc
    go (Some middle) ih e = ih middle e

pub regroup_body : (h b : List ℕ) (c z : ℕ) (p r : List ℕ) → h ++ b ++ c ∷ [] ++ (p ++ z ∷ []) ++ r ≡ h ++ b ++ c ∷ (p ++ z ∷ r)
regroup_body h b c z p r = simp append_assoc

regroup : (h b p r : List ℕ) → h ++ b ++ 165 ∷ [] ++ (p ++ r) ≡ h ++ (b ++ 165 ∷ p) ++ r
regroup h b p r = simp append_assoc

module _ (header : Header) (generation : ℕ) (log : SideState) (seen : List ℕ) (loose : Loose) (has : HasLog 165 header generation log seen loose) where
  -- a frame is written behind the last gate of a side at rest
  unfoldable pub appended :
      (payload : List ℕ) → loose ≡ settled seen → MayCome seen payload → length payload ≤ 600000
      → HasLog 165 header generation (record log { waiting = Some (log.end + 5 + length payload) })
      (overwritten (log.end + 1) (body payload ++ 0 ∷ []) seen) (written (log.end + 1) (length (body payload ++ 0 ∷ [])) loose)
  appended payload rests come short =
      let more : List ℕ = drop (log.end + 1 + length (body payload ++ 0 ∷ [])) seen in
      let listed_is : list_of seen ≡ Some (map entry_of has.found) = ap listed (log_is header generation log seen loose has) in
      let entries_are : come.entries ≡ map entry_of has.found = some_is _ _ (sym come.listed ∙ listed_is) in
      let follow_is : come.follow ≡ has.follow = some_is _ _ (sym come.before ∙ ap (followed start) entries_are ∙ has.followed) in
      let comes : after has.follow come.number come.entry ≡ Some come.next = ap (λ (f : Follow). after f come.number come.entry) (sym follow_is) ∙ come.comes in
      let spelled : overwritten (log.end + 1) (body payload ++ 0 ∷ []) seen ≡ head 165 header generation ++ has.bytes ++ has.closing ∷ (body payload ++ 0 ∷ more) =
      ap (λ (l : List ℕ). l ++ (body payload ++ 0 ∷ []) ++ more) (gate_is header generation log seen loose has) ∙ regroup_body (head 165 header generation) has.bytes has.closing 0 (body payload) more in
      let gate : take (log.end + 1) (overwritten (log.end + 1) (body payload ++ 0 ∷ []) seen) ≡ take (log.end + 1) seen =
      ap (λ (l : List ℕ). take (log.end + 1) l) (append_assoc (take (log.end + 1) seen) (body payload ++ 0 ∷ []) more)
      ∙ take_at (take (log.end + 1) seen) (body payload ++ 0 ∷ [] ++ more) (log.end + 1) (length-take-le (log.end + 1) seen (omega (arith, inside header generation log seen loose has))) in
      record {
        bytes = has.bytes;
        found = has.found;
        follow = has.follow;
        closing = has.closing;
        rest = body payload ++ 0 ∷ more;
        front = has.front;
        followed = has.followed;
        places = has.places;
        end = has.end;
        spelled = spelled;
        fits = has.fits;
        closed = has.closed;
        ends = has.ends;
        firm = λ content image.
            written_firm log.end (length (body payload ++ 0 ∷ [])) seen (inside header generation log seen loose has) content
            (subst (λ (l : Loose). IsImage (written (log.end + 1) (length (body payload ++ 0 ∷ [])) l) content) rests image)
            ∙ sym gate;
        waits = record {
          payload = payload;
          found = record { number = come.number; entry = come.entry; follow = come.next };
          more = more;
          written = refl;
          behind = refl;
          short = short;
          readable = found_again has.follow come.next payload come.number come.entry come.read comes;
          ends = λ opens. read_ends has.follow come.next payload come.number come.entry come.read comes;
        };
      }

  -- the gate of the frame that waits is opened
  pub sealed :
      (next : ℕ) → Waits 165 has.follow log.end next has.rest
      → HasLog 165 header generation (record log { places = log.places ++ log.end ∷ []; end = next; waiting = None }) (opened log.end seen) (settled (opened log.end seen))
  sealed next waits =
      let one : Frame = record { place = 17 + length has.bytes; number = waits.found.number; entry = waits.found.entry } in
      let read = found_read has.follow waits.payload waits.found waits.readable in
      let bytes : List ℕ = has.bytes ++ frame waits.payload in
      let spelled : opened log.end seen ≡ head 165 header generation ++ bytes ++ 0 ∷ waits.more =
      ap (λ (l : List ℕ). take log.end seen ++ 165 ∷ [] ++ l) (back_is header generation log seen loose has ∙ waits.written)
      ∙ ap (λ (l : List ℕ). l ++ 165 ∷ [] ++ (body waits.payload ++ 0 ∷ waits.more)) (front_is header generation log seen loose has)
      ∙ regroup (head 165 header generation) has.bytes (body waits.payload) (0 ∷ waits.more) in
      let end_is : next ≡ 17 + length bytes = omega (arith, waits.behind, has.end, length-append has.bytes (frame waits.payload), length-body waits.payload) in
      let size = ap length spelled in
      let inside_is : next < length (opened log.end seen) =
      omega (arith, end_is, length-append (head 165 header generation) bytes, length-append (head 165 header generation ++ bytes) (0 ∷ waits.more)) in
      record {
        bytes = bytes;
        found = has.found ++ one ∷ [];
        follow = waits.found.follow;
        closing = 0;
        rest = waits.more;
        front = Front_more has.bytes has.found has.follow waits.payload waits.found has.front waits.short waits.readable;
        followed = rw map-append (followed-push start has.follow waits.found.follow (map entry_of has.found) (entry_of one) has.followed read.1);
        places = rw (map-append, has.places, has.end) refl;
        end = end_is;
        spelled = spelled;
        fits = has.fits;
        closed = refl;
        ends = waits.ends;
        firm = settled_firm next (opened log.end seen) inside_is;
        waits = refl;
      }

  -- what it gives then
  pub log_more :
      (next : ℕ) (waits : Waits 165 has.follow log.end next has.rest)
      → log_of (opened log.end seen) ≡ with_frame (record { place = log.end; number = waits.found.number; entry = waits.found.entry }) (log_of seen)
  unfolding sealed
  log_more next waits =
      let now = sealed next waits in
      log_is header generation (record log { places = log.places ++ log.end ∷ []; end = next; waiting = None }) (opened log.end seen) (settled (opened log.end seen)) now
      ∙ ap (λ (n : ℕ). with_frame (record { place = n; number = waits.found.number; entry = waits.found.entry }) (Ok (Some (record { header = header; generation = generation; frames = has.found })))) (sym has.end)
      ∙ ap (with_frame (record { place = log.end; number = waits.found.number; entry = waits.found.entry })) (sym (log_is header generation log seen loose has))

  -- while the gate is opened, a crash leaves the log as it was or with the frame
  pub gate_crash : (content : List ℕ) → IsImage (written log.end 1 (settled seen)) content → (log_of content ≡ log_of seen) ⊎ (log_of content ≡ log_of (opened log.end seen))
  gate_crash content image =
      let is = gate_image log.end 1 seen content (inside header generation log seen loose has) refl image in
      by (byte_at content log.end) is
    where
      by : (gate : ℕ) → content ≡ take log.end seen ++ gate ∷ drop (log.end + 1) seen → (log_of content ≡ log_of seen) ⊎ (log_of content ≡ log_of (opened log.end seen))
      by gate is = elim (cases_eq gate 165) [
        | inl opens ↦ inr (ap log_of (is ∙ ap (λ (g : ℕ). take log.end seen ++ g ∷ drop (log.end + 1) seen) opens ∙ sym (append_assoc (take log.end seen) (165 ∷ []) (drop (log.end + 1) seen))))
        | inr shuts ↦ inl (shut header generation log seen loose has gate content (ne_eqb gate 165 shuts) is)
      ]
