-- The edges of a gate, and the one pass over its ticks in which the code draws both.
use Rattle.std.specs.Prelude.{◌≡◌, ℕ, ◌<◌, ◌≤◌, min, max, true, false, cond, not, ◌&&◌, ◌||◌, List, length, nat_le}
use Rattle.laws.specs.Below.{sum_between}
use Rattle.bits.specs.Bits.{row_bit}
use Rattle.excitation.specs.Excitation.{hl, lh}
use Rattle.excitation.specs.declared.Excitation.{Excitation}
use Rattle.block.specs.Accepted.{InRanges}
use Rattle.block.specs.View.{FieldsFit}
use Rattle.block.specs.declared.Gate.{Gate}
use Rattle.sheet.specs.Changes.{Added}
use Rattle.current.specs.Current.{edge_pulse}
use Rattle.current.specs.Runs.{Shaped}
use Rattle.current.specs.declared.edge.Peak.{Peak}
use Rattle.current.specs.declared.edge.Peak.TheVariants.{Greater, Lower}
use Rattle.current.specs.declared.edge.Run.{Run}
use Rattle.current.specs.declared.level.Pulse.{Pulse}

-- What there is for the greater peak, or for the other one.
abbrev pub of_peak : {A : Type 0} → Peak → A → A → A
of_peak Greater x y = x
of_peak Lower x y = y

-- The edge of a gate with the greater peak, or the other one, and its peak.
unfoldable pub edge_of : Gate → Peak → Excitation
edge_of gate peak = cond (nat_le gate.peaks.hl gate.peaks.lh) (of_peak peak lh hl) (of_peak peak hl lh)

unfoldable pub peak_of : Gate → Peak → ℕ
peak_of gate peak = of_peak peak (max gate.peaks.lh gate.peaks.hl) (min gate.peaks.lh gate.peaks.hl)

-- The pulse of that peak, as the code has it.
abbrev pub pulse_of : Gate → Peak → Pulse
pulse_of gate peak = record { peak = peak_of gate peak; rise = gate.rise; fall = gate.fall }

-- A row of 256 bits that has no tick before tick `first`.
pub record TicksFrom (first : ℕ) (ticks : List ℕ) : Type 0 where
  pub long : length ticks ≡ 4
  pub in_time : first ≤ 256
  pub before : (t : ℕ) → t < first → row_bit ticks t ≡ false

-- The fields that the drawing of a gate needs.
pub record PulseFields (gate : Gate) : Type 0 where
  pub ranges : InRanges gate.contact gate.delay gate.rise gate.fall
  pub fits : FieldsFit gate

-- A gate, and the ticks at which its sets allow each of its edges.
pub record GateEdges (gate : Gate) (greater lower : List ℕ) : Type 0 where
  pub fields : PulseFields gate
  pub greater_from : TicksFrom gate.delay greater
  pub lower_from : TicksFrom gate.delay lower

-- The greater pulse at tick t that tick x allows, by the rows of the edge with the greater peak and of the other one.
unfoldable pub pulse_by_rows : Gate → List ℕ → List ℕ → ℕ → ℕ → ℕ
pulse_by_rows gate greater lower x t =
    max (edge_pulse gate (peak_of gate Greater) (row_bit greater x) x t) (edge_pulse gate (peak_of gate Lower) (row_bit lower x) x t)

-- Words of changes once the ticks from tick `from` to before tick `to` are passed: the pulses that they allow are added.
abbrev pub Passed : Gate → List ℕ → List ℕ → ℕ → ℕ → List ℕ → List ℕ → Type 0
Passed gate greater lower from to = Added gate.contact (λ t. sum_between from to (λ x. pulse_by_rows gate greater lower x t))

-- A row of bits that has no tick.
abbrev pub NoTick : List ℕ → Type 0
NoTick ticks = (t : ℕ) → t < 256 → row_bit ticks t ≡ false

-- The ticks of one row that are not ticks of another, and the ticks of either row.
pub record Without (ticks others rest : List ℕ) : Type 0 where
  pub long : length rest ≡ 4
  pub at : (t : ℕ) → t < 256 → row_bit rest t ≡ row_bit ticks t && not (row_bit others t)

pub record Either (ticks others all : List ℕ) : Type 0 where
  pub long : length all ≡ 4
  pub at : (t : ℕ) → t < 256 → row_bit all t ≡ row_bit ticks t || row_bit others t

-- The ticks by the one peak that each has: those of the greater peak, those of the lower one, where it is alone, and all.
pub record TicksByPeak (greater lower all : List ℕ) : Type 0 where
  pub either : Either greater lower all
  pub apart : (x : ℕ) → x < 256 → row_bit lower x ≡ true → row_bit greater x ≡ false

-- The next run, not before tick `from`: none of the ticks before it has a peak, all of its ticks have the same.
pub record NextRun (greater lower : List ℕ) (from : ℕ) (run : Run) : Type 0 where
  pub low : from ≤ run.first
  pub some : run.first < run.end
  pub high : run.end ≤ 256
  pub before : (x : ℕ) → from ≤ x → x < run.first → (row_bit greater x ≡ false) × (row_bit lower x ≡ false)
  pub inside : (x : ℕ) → run.first ≤ x → x < run.end → row_bit (of_peak run.peak greater lower) x ≡ true

-- No tick from tick `from` on has a peak.
abbrev pub NoRun : List ℕ → List ℕ → ℕ → Type 0
NoRun greater lower from = (x : ℕ) → from ≤ x → x < 256 → (row_bit greater x ≡ false) × (row_bit lower x ≡ false)

-- Where the shape of a peak's pulse stands among the shapes; and the shapes, each made where a tick has its peak.
unfoldable pub place_of : Peak → ℕ
place_of peak = of_peak peak 0 264

pub record ShapesMade (gate : Gate) (greater lower shapes : List ℕ) : Type 0 where
  pub long : length shapes ≡ 528
  pub made : (peak : Peak) (x : ℕ) → x < 256 → row_bit (of_peak peak greater lower) x ≡ true
      → Shaped (peak_of gate peak) gate.rise gate.fall (place_of peak) shapes
