pub mod ArgumentViews
