-- What goes on holding of a trace where events come, one after another.
use Rattle.std.proofs.Common.{◌≡◌, ℕ, ◌≤◌, List, [], ◌∷◌, ◌++◌, length, refl, sym, ap, subst}
use Rattle.off_chip.specs.declared.Event.{Event}
use Rattle.off_chip.specs.Histories.{History, ◌◂◌, followed, history, in_order, Each}
use Rattle.off_chip.proofs.HistoryLemmas.{history-append, in_order-history}

each-followed : (P : Event → History → Type 0) (older : History) (rest : List Event) → Each P older
    → ((between : List Event) (event : Event) (last : List Event) → rest ≡ between ++ event ∷ last → P event (followed older between)) → Each P (followed older rest)
each-followed P older [] each holds = each
each-followed P older (event ∷ rest) each holds =
    each-followed P (event ◂ older) rest (each, holds [] event rest refl)
    (λ between later last same. holds (event ∷ between) later last (ap (λ (xs : List Event). event ∷ xs) same))

-- a predicate that holds at each event so far holds at each of a longer trace, where it does at each of the further events
pub each-grown : (P : Event → History → Type 0) (old events new : List Event) → new ≡ old ++ events → Each P (history old)
    → ((between : List Event) (event : Event) (last : List Event) → events ≡ between ++ event ∷ last → P event (history (old ++ between))) → Each P (history new)
each-grown P old events new same each holds =
    subst (λ (h : History). Each P h) (sym (history-append new old events same))
    (each-followed P (history old) events each
    (λ between event last parts. subst (λ (h : History). P event h) (history-append (old ++ between) old between refl) (holds between event last parts)))

-- how many events a history has
pub counted : (entry : ℕ) (trace : List Event) → entry ≤ length trace → entry ≤ length (in_order (history trace))
counted entry trace from = subst (λ (t : List Event). entry ≤ length t) (sym (in_order-history trace)) from

pub counted-back : (entry : ℕ) (trace : List Event) → entry ≤ length (in_order (history trace)) → entry ≤ length trace
counted-back entry trace from = subst (λ (t : List Event). entry ≤ length t) (in_order-history trace) from
