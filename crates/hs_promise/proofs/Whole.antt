-- The run in which a peer joins again keeps all of the promise in the plain store's words, where the objects tell nothing.
use Rattle.std.proofs.Common.{ap, arith, inl, sym, ◌∙◌}
use Rattle.std.proofs.lemmas.Bool.{false≢true}
use Rattle.std.proofs.lemmas.List.Elements.{All-from_recursion, All-nil}
use Rattle.std.specs.Option.{option_map_or}
use Rattle.std.specs.Prelude.{◌≡◌, refl, ℕ, zero, suc, ◌≤◌, Bool, true, false, All, List, [], ◌∷◌, Option, slice_get}
use Rattle.hs_entry.specs.Entries.{rank_of}
use Rattle.hs_journal.specs.declared.entry.JournalEntry.{JournalEntry}
use Rattle.hs_journal.specs.declared.entry.Who.{Who}
use Rattle.hs_journal.specs.declared.entry.Who.TheVariants as who
use Rattle.hs_limits.specs.Reading.{addresses, block_at, read_block}
use Rattle.hs_model.specs.declared.course.CourseItem.{CourseItem}
use Rattle.hs_model.specs.Refusals.{no_handle_in, stale_in}
use Rattle.hs_model.specs.Store.{helds_of}
use Rattle.hs_ops.specs.Answers.{deed_of, gained, seats_after}
use Rattle.hs_ops.specs.Going.{asked_for, begin, block_entry, compared, data_of, go, is_same_block, judged_in, mark_entry, on_bytes, on_effect}
use Rattle.hs_ops.specs.Refusals.{refusals_of}
use Rattle.hs_ops.specs.Speaking.{asked_block, least_epoch}
use Rattle.hs_promise.proofs.Rejoining.{ran, script}
use Rattle.hs_promise.specs.Answers.{IsEntry, Prints}
use Rattle.hs_promise.specs.Completes.{HasPrompt}
use Rattle.hs_journal.specs.Telling.{IsDownAt}
use Rattle.hs_promise.specs.Promise.{Promise}

-- ---- its entries: two prompt answers, and those of two writes and a read

entries : All (IsEntry script 14) ran.journal
unfolding gained addresses block_at read_block no_handle_in stale_in helds_of deed_of seats_after asked_for begin block_entry compared data_of go is_same_block judged_in mark_entry on_bytes on_effect refusals_of asked_block least_epoch rank_of
entries = All-from_recursion (IsEntry script 14) ran.journal
    ((omega arith, inl refl), ((omega arith, inl refl), ((omega arith, inl refl), ((omega arith, inl refl), ((omega arith, inl refl), tt)))))

few : (n : ℕ) → n ≡ 5 → n ≤ 1048576
few n five = omega (arith, five)

-- none of the store
abbrev pub is_of_store : JournalEntry → Bool
is_of_store entry = by entry.who
  where
    by : Who → Bool
    by (who.Line n) = false
    by (who.Shard g) = false
    by who.Store = true

abbrev of_store : Option JournalEntry → Bool
of_store entry = option_map_or is_of_store entry false

none_of_store : (place : ℕ) → of_store (slice_get ran.journal place) ≡ false
unfolding gained addresses block_at read_block no_handle_in stale_in helds_of deed_of seats_after asked_for begin block_entry compared data_of go is_same_block judged_in mark_entry on_bytes on_effect refusals_of asked_block least_epoch rank_of
none_of_store zero = refl
none_of_store (suc zero) = refl
none_of_store (suc (suc zero)) = refl
none_of_store (suc (suc (suc zero))) = refl
none_of_store (suc (suc (suc (suc zero)))) = refl
none_of_store (suc (suc (suc (suc (suc place))))) = refl

pub store_is : (note : JournalEntry) → note.who ≡ who.Store → is_of_store note ≡ true
store_is note store = ap (λ w. is_of_store (record note { who = w })) store

no_note : (place peer line : ℕ) → IsDownAt ran.journal place peer line → ⊥
no_note place peer line down = false≢true (sym (none_of_store place) ∙ (ap of_store down.at ∙ store_is down.note down.store))

-- ---- the two lines that are answered in their own event

prompt : (line : ℕ) → HasPrompt script ran line
unfolding gained addresses block_at read_block no_handle_in stale_in helds_of deed_of seats_after asked_for begin block_entry compared data_of go is_same_block judged_in mark_entry on_bytes on_effect refusals_of asked_block least_epoch rank_of
prompt zero = λ within prompt lacks. absurd prompt
prompt (suc zero) = λ within prompt lacks. (0, record { entry = _; at = refl; line = refl })
prompt (suc (suc zero)) = λ within prompt lacks. absurd prompt
prompt (suc (suc (suc zero))) = λ within prompt lacks. absurd prompt
prompt (suc (suc (suc (suc zero)))) = λ within prompt lacks. absurd prompt
prompt (suc (suc (suc (suc (suc zero))))) = λ within prompt lacks. absurd prompt
prompt (suc (suc (suc (suc (suc (suc zero)))))) = λ within prompt lacks. absurd prompt
prompt (suc (suc (suc (suc (suc (suc (suc zero))))))) = λ within prompt lacks. absurd prompt
prompt (suc (suc (suc (suc (suc (suc (suc (suc zero)))))))) = λ within prompt lacks. absurd prompt
prompt (suc (suc (suc (suc (suc (suc (suc (suc (suc zero))))))))) = λ within prompt lacks. absurd prompt
prompt (suc (suc (suc (suc (suc (suc (suc (suc (suc (suc zero)))))))))) = λ within prompt lacks. absurd prompt
prompt (suc (suc (suc (suc (suc (suc (suc (suc (suc (suc (suc zero))))))))))) = λ within prompt lacks. absurd prompt
prompt (suc (suc (suc (suc (suc (suc (suc (suc (suc (suc (suc (suc zero)))))))))))) = λ within prompt lacks. absurd prompt
prompt (suc (suc (suc (suc (suc (suc (suc (suc (suc (suc (suc (suc (suc zero))))))))))))) = λ within prompt lacks. absurd prompt
prompt (suc (suc (suc (suc (suc (suc (suc (suc (suc (suc (suc (suc (suc (suc zero)))))))))))))) = λ within prompt lacks. (4, record { entry = _; at = refl; line = refl })
prompt (suc (suc (suc (suc (suc (suc (suc (suc (suc (suc (suc (suc (suc (suc (suc line))))))))))))))) = λ within prompt lacks. absurd (omega (arith, within))

-- ---- all of it

abbrev pub begins_with_items : List CourseItem → Bool
begins_with_items [] = false
begins_with_items (i ∷ items) = true

prints : Prints script ran
unfolding gained addresses block_at read_block no_handle_in stale_in helds_of deed_of seats_after asked_for begin block_entry compared data_of go is_same_block judged_in mark_entry on_bytes on_effect refusals_of asked_block least_epoch rank_of
prints = record {
  entries = entries;
  fits = few _ refl;
  dated = record {
    later = λ i j n peer line of down before. absurd (no_note j peer line down);
    earlier = λ i j n peer line of prompt down up_to. absurd (no_note j peer line down);
  };
  nothing = λ none. absurd (false≢true (sym (ap begins_with_items none)));
  printed = refl;
  in_time = λ m behind during. record { count = 0; put = refl };
}

pub same : (count : ℕ) → count ≤ count
same count = omega arith

the_promise_is_kept : Promise ⊥ script ran
unfolding gained addresses block_at read_block no_handle_in stale_in helds_of deed_of seats_after asked_for begin block_entry compared data_of go is_same_block judged_in mark_entry on_bytes on_effect refusals_of asked_block least_epoch rank_of
the_promise_is_kept = record {
  script = tt;
  handed_back = refl;
  prints = prints;
  prompt = prompt;
  time = record { later = same 0; puts = record { more = []; put = refl; stamped = All-nil _ } };
  counts = record { disks = λ peer. same _; sink = same 0; source = same 0 };
  no_load = record { kept = refl; stored = refl };
  cause = refl;
  calm = record { told = λ opened whole peer within none. refl; other = λ peer found is. refl };
  ends = tt;
  told = λ none. absurd none;
}
