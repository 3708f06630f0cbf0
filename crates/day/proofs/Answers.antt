-- An answer is a reading of one of the four requests, by its length, or missed: one law by cases (`answered`), and what it says of one place of
-- the numbers (`reads_of`).
-- Assumes nothing.
use mathlib.Core.Path.{◌≡◌, refl, sym, ap, ap₂, ◌∙◌}
use mathlib.Core.Bool.{Bool, true, false, cond}
use mathlib.Core.List.{List}
use Prim.Native.Nat.{ℕ}
use lib.Dec.{eqb}
use lib.ListN.{length}
use borrow.Author.Tests.{eqb-true}
use Rattle.std.specs.Prelude.{Ok, Err}
use Rattle.refusal.specs.declared.Refusal.TheVariants.{ResponseLength}
use Rattle.cmd_lora.specs.Responses.{lora_rx_stats_rsp, lora_packet_status_rsp}
use Rattle.cmd_fsk.specs.Responses.{fsk_rx_stats_rsp, fsk_packet_status_rsp}
use Rattle.day.specs.declared.Day.{Day}
use Rattle.day.specs.Days.{heard_lora_rx_stats, heard_lora_packet_status, heard_fsk_rx_stats, heard_fsk_packet_status, missed, on_received}
use Rattle.day.specs.Tally.{is_reading}

module _ (b : List ℕ) (d : Day) where
  -- the day after a reading of each request
  abbrev pub lora-stats : Day
  lora-stats = heard_lora_rx_stats (Ok (lora_rx_stats_rsp b)) d

  abbrev pub lora-packet : Day
  lora-packet = heard_lora_packet_status (Ok (lora_packet_status_rsp b)) d

  abbrev pub fsk-stats : Day
  fsk-stats = heard_fsk_rx_stats (Ok (fsk_rx_stats_rsp b)) d

  abbrev pub fsk-packet : Day
  fsk-packet = heard_fsk_packet_status (Ok (fsk_packet_status_rsp b)) d

  pub answered : (P : Day → Type 0) → (d.latest ≡ 9 → eqb (length b) 12 ≡ true → P lora-stats) → (d.latest ≡ 10 → eqb (length b) 8 ≡ true → P lora-packet)
      → (d.latest ≡ 22 → eqb (length b) 16 ≡ true → P fsk-stats) → (d.latest ≡ 23 → eqb (length b) 8 ≡ true → P fsk-packet)
      → (is_reading d.latest b ≡ false → P (missed d)) → P (on_received b d)
  unfolding on_received
  answered P p9 p10 p22 p23 none =
      go (eqb d.latest 9) refl (eqb d.latest 10) refl (eqb d.latest 22) refl (eqb d.latest 23) refl (eqb (length b) 12) refl (eqb (length b) 8) refl
      (eqb (length b) 16) refl none
    where
      go : (i : Bool) → eqb d.latest 9 ≡ i → (j : Bool) → eqb d.latest 10 ≡ j → (k : Bool) → eqb d.latest 22 ≡ k → (l : Bool)
          → eqb d.latest 23 ≡ l → (u : Bool) → eqb (length b) 12 ≡ u → (v : Bool) → eqb (length b) 8 ≡ v → (w : Bool) → eqb (length b) 16 ≡ w
          → (cond i u (cond j v (cond k w (cond l v false))) ≡ false → P (missed d))
          → P (cond i (heard_lora_rx_stats (cond u (Ok (lora_rx_stats_rsp b)) (Err ResponseLength)) d)
          (cond j (heard_lora_packet_status (cond v (Ok (lora_packet_status_rsp b)) (Err ResponseLength)) d)
          (cond k (heard_fsk_rx_stats (cond w (Ok (fsk_rx_stats_rsp b)) (Err ResponseLength)) d)
          (cond l (heard_fsk_packet_status (cond v (Ok (fsk_packet_status_rsp b)) (Err ResponseLength)) d)
          (missed d)))))
      go true ei j ej k ek l el true eu v ev w ew n = p9 (eqb-true _ _ ei) eu
      go true ei j ej k ek l el false eu v ev w ew n = n refl
      go false ei true ej k ek l el u eu true ev w ew n = p10 (eqb-true _ _ ej) ev
      go false ei true ej k ek l el u eu false ev w ew n = n refl
      go false ei false ej true ek l el u eu v ev true ew n = p22 (eqb-true _ _ ek) ew
      go false ei false ej true ek l el u eu v ev false ew n = n refl
      go false ei false ej false ek true el u eu true ev w ew n = p23 (eqb-true _ _ el) ev
      go false ei false ej false ek true el u eu false ev w ew n = n refl
      go false ei false ej false ek false el u eu v ev w ew n = n refl

  -- an answer to the request k that has the length m
  abbrev pub asks : ℕ → ℕ → Bool
  asks k m = cond (eqb d.latest k) (eqb (length b) m) false

  -- A place of the numbers: what each reading makes of it is said by the request's number and length alone.
  module _ {X : Type 0} (get : Day → X) (x : X) (k m : ℕ) (own : is_reading k b ≡ eqb (length b) m) where
    abbrev Made : Day → ℕ → ℕ → Type 0
    Made e j n = get e ≡ cond (cond (eqb j k) (eqb n m) false) x (get d)

    pub reads_of : Made lora-stats 9 12 → Made lora-packet 10 8 → Made fsk-stats 22 16 → Made fsk-packet 23 8 → get (missed d) ≡ get d
        → get (on_received b d) ≡ cond (asks k m) x (get d)
    reads_of g9 g10 g22 g23 none =
        answered (λ e. get e ≡ cond (asks k m) x (get d)) (λ e l. at lora-stats 9 12 g9 e l) (λ e l. at lora-packet 10 8 g10 e l)
        (λ e l. at fsk-stats 22 16 g22 e l) (λ e l. at fsk-packet 23 8 g23 e l) (λ r. none ∙ ap (λ (t : Bool). cond t x (get d)) (sym (missing r)))
      where
        at : (e : Day) (j n : ℕ) → Made e j n → d.latest ≡ j → eqb (length b) n ≡ true → get e ≡ cond (asks k m) x (get d)
        at e j n g p l = g ∙ ap₂ (λ (i a : ℕ). cond (cond (eqb i k) (eqb a m) false) x (get d)) (sym p) (sym (eqb-true (length b) n l))

        missing : is_reading d.latest b ≡ false → asks k m ≡ false
        missing r = go (eqb d.latest k) refl
          where
            go : (t : Bool) → eqb d.latest k ≡ t → cond t (eqb (length b) m) false ≡ false
            go true e = sym own ∙ ap (λ (j : ℕ). is_reading j b) (sym (eqb-true d.latest k e)) ∙ r
            go false e = refl
