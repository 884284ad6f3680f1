-- What a contract sees of a clock.
use Rattle.jiff_core.specs.Date.{ordinal, weekday_of}
use Rattle.log4rs_base.specs.Clock.{ClockFields}
use Rattle.log4rs_base.specs.declared.dates.clock.Clock.TheInside.{Inside}

abbrev pub clock_fields : Inside → ClockFields
clock_fields c = record {
  year = c.date.year;
  month = c.date.month;
  day = c.date.day;
  day_of_year = ordinal c.date;
  weekday = weekday_of c.date;
  hour = c.time.hour;
  minute = c.time.minute;
  second = c.time.second;
  nanosecond = c.time.subsec_nanosecond;
  offset = c.offset.seconds;
  is_utc = c.is_utc;
}
