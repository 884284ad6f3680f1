-- What `jiff` is given to print a clock from.
use Rattle.std.specs.Prelude.{◌≡◌, Some}
use Rattle.jiff_strtime.specs.Text.{Parts, parts_of, from_hour}
use Rattle.jiff_strtime.specs.declared.tm.BrokenDownTime.{BrokenDownTime}
use Rattle.log4rs_base.specs.Clock.{ClockFields}

-- the parts are those of the clock
pub record ShowsClock (c : ClockFields) (p : Parts) : Type 0 where
  pub year : p.year ≡ Some c.year
  pub month : p.month ≡ Some c.month
  pub day : p.day ≡ Some c.day
  pub day_of_year : p.day_of_year ≡ Some c.day_of_year
  pub weekday : p.weekday ≡ Some c.weekday
  pub hour : p.hour ≡ Some c.hour
  pub minute : p.minute ≡ Some c.minute
  pub second : p.second ≡ Some c.second
  pub meridiem : p.meridiem ≡ Some (from_hour c.hour)

abbrev pub HasClock : ClockFields → BrokenDownTime → Type 0
HasClock c tm = ShowsClock c (parts_of tm)
